use Rattle.std.proofs.Common.{arith}
use Rattle.book_scope_plan.proofs.OrderLaws.{bars_few}
use Rattle.draw_plan.proofs.order.bars_of.Goals as goal

pub returns-clause-few : goal.returns-clause-few
returns-clause-few c =
    rw c.in_ok-bars.ensures (bars_few c.args.a.now c.args.b.now c.args.pair.now c.args.plan.now
    (omega (arith, c.rows-a.ensures.value, c.rows-a.ensures.limit)) (omega (arith, c.rows-b.ensures.value, c.rows-b.ensures.limit)))
