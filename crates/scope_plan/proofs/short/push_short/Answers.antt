use Rattle.scope_plan.specs.Facings.{facing_of, sent_of}
use Rattle.scope_plan.proofs.WayLaws.{no_row}
use Rattle.scope_plan.proofs.short.push_short.Goals as goal

pub returns : goal.returns
returns c =
    no_row (facing_of c.args.facing.now) (sent_of c.args.sent.now) c.loop-i.told c.loop-i.i c.entries-rows.result.now c.args.facing.now.other.now.rows c.args.out.now.items c.loop-i.out.items _
    c.entries-rows.ensures.value c.loop-i-test.false c.loop-i.invariant c.in_ok-push_if.ensures
