use Rattle.std.proofs.Common.{ap, refl, ◌∙◌, arith}
use Rattle.pcap_file.proofs.Parts.{cut_part}
use Rattle.pcap_file.proofs.Ready.{is_over, is_within, kept_step}
use Rattle.pcap_file.proofs.packets.Packets.advance_kept.Goals as goal

pub returns-then-past-self-clause-whole : goal.returns-then-past-self-clause-whole
returns-then-past-self-clause-whole c =
    let found = rw c.kept.ensures.value at c.in-Some-kept_record.ensures in
    let limit = c.self.invariant.0 in
    let over = c.if-past-self.true in
    rw (← c.self.view_is, c.in-Some.is) (is_over c.in-Some.head c.self.inside.buffer.kept _ c.self.inside.handed c.in-Some-kept_record.found.1 found.0 found.1 (omega arith))

pub returns-clause-whole : goal.returns-clause-whole
returns-clause-whole c =
    let found = rw c.kept.ensures.value at c.in-Some-kept_record.ensures in
    let under = c.if-past-self.false in
    let limit = c.self.invariant.0 in
    rw (← c.self.view_is, c.in-Some.is) (is_within c.in-Some.head c.self.inside.buffer.kept _ c.self.inside.handed c.in-Some-kept_record.found.1 found.0 found.1 (omega arith))

pub returns-clause-steps : goal.returns-clause-steps
returns-clause-steps c = λ yes side.
    let found = rw c.kept.ensures.value at c.in-Some-kept_record.ensures in
    let fits = rw c.kept.ensures.value at c.kept.ensures.fits in
    let under = c.if-past-self.false in
    let limit = c.self.invariant.0 in
    let datagram = rw c.kept-2.ensures.value at c.find_datagram-cut.ensures.datagram in
    let after = rw c.kept-2.ensures.value at c.find_datagram-cut.ensures.within in
    let piece = cut_part c.self.inside.buffer.kept c.in-Some-kept_record.found.1 c.find_datagram-cut.result.first c.find_datagram-cut.result.after c.in-Some.head.link c.find_datagram-cut.ensures.ordered after found.0 datagram in
    let going = ap (λ r. r.over) c.self.view_is ∙ c.requires in
    rw (← c.self.view_is, c.pass.ensures)
    (kept_step c.in-Some.head c.self.inside.buffer.kept _ c.self.inside.handed c.in-Some-kept_record.found.1 found.0 found.1 c.self.inside.head c.self.inside.count c.self.inside.seconds c.in-Some-kept_record.found.0 c.self.inside.shown
    c.self.inside.over c.self.inside.buffer _ side c.in-Some.is refl refl c.self.invariant.2 fits going (omega arith) piece)
