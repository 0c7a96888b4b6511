use Rattle.pcap_file.proofs.Ready.{none_over, none_part, none_short, stays_whole}
use Rattle.pcap_file.proofs.records.kept_record.Goals as goal

pub returns-then-kept-lt-RECORD : goal.returns-then-kept-lt-RECORD
returns-then-kept-lt-RECORD c = none_short c.args.order c.args.kept.now c.if-kept-lt-RECORD.true

pub returns-then-len-gt-MOST_KEPT : goal.returns-then-len-gt-MOST_KEPT
returns-then-len-gt-MOST_KEPT c = none_over c.args.order c.args.kept.now c.u32_at-len.result c.if-kept-lt-RECORD.false c.u32_at-len.ensures c.if-len-gt-MOST_KEPT.true

pub returns-then-len-kept : goal.returns-then-len-kept
returns-then-len-kept c = none_part c.args.order c.args.kept.now c.u32_at-len.result c.if-kept-lt-RECORD.false c.u32_at-len.ensures c.if-len-gt-MOST_KEPT.false c.if-len-kept.true

pub returns : goal.returns
returns c = (
  c.if-len-kept.false,
  stays_whole c.args.order c.args.kept.now c.u32_at-seconds.result c.u32_at-len.result c.if-kept-lt-RECORD.false c.u32_at-seconds.ensures c.u32_at-len.ensures c.if-len-gt-MOST_KEPT.false c.if-len-kept.false,
)
