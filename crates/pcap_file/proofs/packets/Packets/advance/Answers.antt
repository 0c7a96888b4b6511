use Rattle.std.proofs.Common.{◌≡◌, ◌++◌, ap, ◌∙◌, arith}
use Rattle.ao_base.proofs.Sides.{rose_after}
use Rattle.pcap_file.specs.Reads.{header_length}
use Rattle.pcap_file.proofs.Calls.{reach, long_step, end_step, broken_step, fault_step, packet_step}
use Rattle.pcap_file.proofs.Parts.{cut_part}
use Rattle.pcap_file.proofs.packets.Packets.advance.Goals as goal

pub returns-then-past-self : goal.returns-then-past-self
returns-then-past-self g c =
    let reached = reach _ c.in-Head.head _ _ _ _ _ _ _ _ _ c.in-Head.ensures.1 c.in-Whole.ensures.1 in
    let past : c.head_length-past.result ≡ header_length c.self.inside.head = c.head_length-past.ensures in
    let over = rw past at c.if-past-self.true in (
      c.in-Head.ensures.0 ++ c.in-Whole.ensures.0,
      rw (← c.self.view_is, c.stop-then-past-self.ensures.step, c.stop-then-past-self.ensures.over, past)
          (long_step c.self.inside.handed c.self.inside.count c.self.inside.seconds c.self.inside.head c.in-Head.head c.self.inside.shown c.self.inside.over c.self.inside.buffer c.find_record.new.buffer _ _ _
          c.self.invariant.2 reached c.in-Whole.len c.in-Whole.ensures.1.is.1 over),
    )

pub returns-in-Done : goal.returns-in-Done
returns-in-Done g c =
    let reached = reach _ c.in-Head.head _ _ _ _ _ _ _ _ _ c.in-Head.ensures.1 c.in-Done.ensures.1 in
    let past : c.head_length-past.result ≡ header_length c.self.inside.head = c.head_length-past.ensures in (
      c.in-Head.ensures.0 ++ c.in-Done.ensures.0,
      rw (← c.self.view_is, c.stop-in-Done.ensures.step, c.stop-in-Done.ensures.over, past)
          (end_step c.self.inside.handed c.self.inside.count c.self.inside.seconds c.self.inside.head c.in-Head.head c.self.inside.shown c.self.inside.over c.self.inside.buffer c.find_record.new.buffer _ _ _
          c.self.invariant.2 reached c.self.invariant.0 c.in-Done.ensures.1.is.0 c.in-Done.ensures.1.is.1),
    )

pub returns-in-Broken : goal.returns-in-Broken
returns-in-Broken g c =
    let reached = reach _ c.in-Head.head _ _ _ _ _ _ _ _ _ c.in-Head.ensures.1 c.in-Broken.ensures.1 in
    let past : c.head_length-past.result ≡ header_length c.self.inside.head = c.head_length-past.ensures in (
      c.in-Head.ensures.0 ++ c.in-Broken.ensures.0,
      rw (← c.self.view_is, c.stop-in-Broken.ensures.step, c.stop-in-Broken.ensures.over, past)
          (broken_step c.self.inside.handed c.self.inside.count c.self.inside.seconds c.self.inside.head c.in-Head.head c.self.inside.shown c.self.inside.over c.self.inside.buffer c.find_record.new.buffer _ _ _
          c.self.invariant.2 reached c.in-Broken.ensures.1.is.0 c.in-Broken.ensures.1.is.1),
    )

pub returns-in-Fault-find_record : goal.returns-in-Fault-find_record
returns-in-Fault-find_record g c =
    let reached = reach _ c.in-Head.head _ _ _ _ _ _ _ _ _ c.in-Head.ensures.1 c.in-Fault-find_record.ensures.1 in
    let past : c.head_length-past.result ≡ header_length c.self.inside.head = c.head_length-past.ensures in (
      c.in-Head.ensures.0 ++ c.in-Fault-find_record.ensures.0,
      rw (← c.self.view_is, c.stop-in-Fault-find_record.ensures.step, c.stop-in-Fault-find_record.ensures.over, past)
          (fault_step c.self.inside.handed c.self.inside.count c.self.inside.seconds c.self.inside.head c.in-Head.head c.self.inside.shown c.self.inside.over c.self.inside.buffer c.find_record.new.buffer _ _ _
          c.self.invariant.2 reached (rose_after _ (g.S.Source.side c.args.src.now) (g.S.Source.side c.open.new.src) (g.S.Source.side c.find_record.new.src) c.in-Head.ensures.1.gave.counts c.in-Fault-find_record.ensures.1.is)),
    )

pub returns-else-past-self : goal.returns-else-past-self
returns-else-past-self g c =
    let reached = reach _ c.in-Head.head _ _ _ _ _ _ _ _ _ c.in-Head.ensures.1 c.in-Whole.ensures.1 in
    let past : c.head_length-past.result ≡ header_length c.self.inside.head = c.head_length-past.ensures in
    let datagram = rw c.kept.ensures.value at c.find_datagram-cut.ensures.datagram in
    let after = rw c.kept.ensures.value at c.find_datagram-cut.ensures.within in
    let piece = cut_part c.find_record.new.buffer.kept c.in-Whole.len c.find_datagram-cut.result.first c.find_datagram-cut.result.after c.in-Head.head.link c.find_datagram-cut.ensures.ordered after
    c.in-Whole.ensures.1.is.1 datagram in
    let under = rw past at c.if-past-self.false in
    let limit = c.self.invariant.0 in
    let going = ap (λ r. r.over) c.self.view_is ∙ c.requires in (
      c.in-Head.ensures.0 ++ c.in-Whole.ensures.0,
      rw (← c.self.view_is, c.pass.ensures, past)
          (packet_step c.self.inside.handed c.self.inside.count c.self.inside.seconds c.self.inside.head c.in-Head.head c.self.inside.shown c.self.inside.over c.self.inside.buffer c.find_record.new.buffer _ _ _
          c.self.invariant.2 reached c.in-Whole.seconds c.in-Whole.len _ going c.in-Whole.ensures.1.is.1 (omega arith) c.in-Whole.ensures.1.is.0 piece),
    )
