use Rattle.std.proofs.Common.{sym, ◌∙◌}
use Rattle.book_keys.specs.Plans.{accepts_from}
use Rattle.cmd_show.proofs.HearingLaws.{passed, unheard, unkeyed}
use Rattle.cmd_show.proofs.way.Way.is_accepted.Goals as goal
use Rattle.cmd_show.proofs.way.Way.is_accepted.Goals.{else-hearing-i-via-then-hearing-i+else-is_keyed_for, else-hearing-i-via-else-hearing-i}

pub loop-i-preserved : goal.loop-i-preserved
loop-i-preserved c =
    let way = c.args.self.now in
    let on = passed (accepts_from way.pair c.args.row.now) way.others.now c.loop-i.i c.other-item.result c.loop-i-test.true c.other-item.is in
    elim c.else-hearing-i.branch [
      | else-hearing-i-via-then-hearing-i+else-is_keyed_for w ↦
          on (unkeyed way.pair c.args.row.now c.other-item.result (sym w.is_keyed_for.ensures ∙ w.if-is_keyed_for.false)) c.loop-i.invariant
      | else-hearing-i-via-else-hearing-i w ↦
          on (unheard way.pair c.args.hearing.now way.others.now c.loop-i.i c.args.row.now c.other-item.result c.requires c.loop-i-test.true c.other-item.is w.if-hearing-i.false) c.loop-i.invariant
    ]
