use Rattle.std.proofs.Common.{arith}
use Rattle.book_plans.proofs.CalendarLaws.{lifetime_stays}
use Rattle.key_plan.proofs.turns.steady_for.Goals as goal

pub returns-clause-steady : goal.returns-clause-steady
returns-clause-steady c =
    let below = c.before_end.ensures.below in
    λ t x y. lifetime_stays c.args.lifetime.now t (c.before_start-until.ensures.steady t x (omega arith)) (c.before_end.ensures.steady t x y)
