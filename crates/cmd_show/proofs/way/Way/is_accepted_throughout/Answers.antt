use Rattle.std.proofs.Common.{sym, ◌∙◌}
use Rattle.book_keys.specs.Plans.{accepts_throughout}
use Rattle.cmd_show.proofs.HearingLaws.{passed, unheard, unkeyed, unheard_throughout, too_short}
use Rattle.cmd_show.proofs.way.Way.is_accepted_throughout.Goals as goal
use Rattle.cmd_show.proofs.way.Way.is_accepted_throughout.Goals.{
  else-hearing-i-via-then-hearing-i+then-is_outlasting+else-is_keyed_for,
  else-hearing-i-via-then-hearing-i+else-is_outlasting,
  else-hearing-i-via-else-hearing-i,
}

pub loop-i-preserved : goal.loop-i-preserved
loop-i-preserved c =
    let way = c.args.self.now in
    let r = c.args.row.now in
    let x = c.other-item.result in
    let on = passed (accepts_throughout way.pair way.lead way.lag r) way.others.now c.loop-i.i x c.loop-i-test.true c.other-item.is in
    elim c.else-hearing-i.branch [
      | else-hearing-i-via-then-hearing-i+then-is_outlasting+else-is_keyed_for w ↦
          on (unheard_throughout way.pair way.lead way.lag r x (unkeyed way.pair r x (sym w.is_keyed_for.ensures ∙ w.if-is_keyed_for.false))) c.loop-i.invariant
      | else-hearing-i-via-then-hearing-i+else-is_outlasting w ↦
          on (too_short way.pair way.lead way.lag r x (sym w.is_outlasting.ensures ∙ w.if-is_outlasting.false)) c.loop-i.invariant
      | else-hearing-i-via-else-hearing-i w ↦
          let deaf = unheard way.pair c.args.hearing.now way.others.now c.loop-i.i r x c.requires c.loop-i-test.true c.other-item.is w.if-hearing-i.false in
          on (unheard_throughout way.pair way.lead way.lag r x deaf) c.loop-i.invariant
    ]
