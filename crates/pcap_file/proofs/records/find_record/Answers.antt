use Rattle.std.proofs.Common.{◌++◌}
use Rattle.pcap_file.proofs.Parts.{found_end, found_over, found_fault, found_part, found_whole}
use Rattle.pcap_file.proofs.records.find_record.Goals as goal

pub returns-in-Ended-fill : goal.returns-in-Ended-fill
returns-in-Ended-fill g c =
    let len = rw c.kept-3.ensures.value at c.u32_at-len.ensures in (
      c.in-Enough.ensures.0 ++ c.in-Ended-fill.ensures.0,
      found_part c.args.order _ c.fill.new.buffer c.fill-2.new.buffer _ _ _ c.in-Enough.ensures.0 c.in-Ended-fill.ensures.0 c.u32_at-len.result
          c.in-Enough.ensures.1 c.in-Ended-fill.ensures.1 len c.if-len-gt-MOST_KEPT.false,
    )

pub returns-in-Enough-fill : goal.returns-in-Enough-fill
returns-in-Enough-fill g c =
    let seconds = rw c.kept-2.ensures.value at c.u32_at-seconds.ensures in
    let len = rw c.kept-3.ensures.value at c.u32_at-len.ensures in (
      c.in-Enough.ensures.0 ++ c.in-Enough-fill.ensures.0,
      found_whole c.args.order _ c.fill.new.buffer c.fill-2.new.buffer _ _ _ c.in-Enough.ensures.0 c.in-Enough-fill.ensures.0 c.u32_at-seconds.result c.u32_at-len.result
          c.in-Enough.ensures.1 c.in-Enough-fill.ensures.1 seconds len c.if-len-gt-MOST_KEPT.false,
    )

pub returns-then-len-gt-MOST_KEPT : goal.returns-then-len-gt-MOST_KEPT
returns-then-len-gt-MOST_KEPT g c =
    let len = rw c.kept-3.ensures.value at c.u32_at-len.ensures in
    (c.in-Enough.ensures.0, found_over c.args.order _ c.fill.new.buffer _ _ _ c.u32_at-len.result c.in-Enough.ensures.1 len c.if-len-gt-MOST_KEPT.true)

pub returns-in-Fault-fill : goal.returns-in-Fault-fill
returns-in-Fault-fill g c = (
  c.in-Enough.ensures.0 ++ c.in-Fault-fill.ensures.0,
  found_fault c.args.order _ c.fill.new.buffer c.fill-2.new.buffer _ _ _ _ _ _ c.in-Enough.ensures.1 c.in-Fault-fill.ensures.1,
)

pub returns-in-Ended : goal.returns-in-Ended
returns-in-Ended g c = (
  c.in-Ended.ensures.0,
  rw (c.none_or_broken.ensures, c.kept.ensures.value) (found_end c.args.order _ c.fill.new.buffer _ _ _ c.in-Ended.ensures.1),
)
