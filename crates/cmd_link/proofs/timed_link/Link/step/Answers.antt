use Rattle.std.proofs.Common.{sym, arith}
use Rattle.cmd_link.proofs.LinkLaws.{past_length, steps_nowhere, steps_too_many}
use Rattle.cmd_link.proofs.timed_link.Link.step.Goals as goal

pub returns-then-outcomes-ge-MOST_EVENTS : goal.returns-then-outcomes-ge-MOST_EVENTS
returns-then-outcomes-ge-MOST_EVENTS c =
    steps_too_many c.args.self.now c.args.self.now c.args.event.now (λ setup past h.
    let n = past_length setup past c.outcomes.result.now (c.outcomes.ensures.shown setup past h) in
    omega (arith, n, c.if-outcomes-ge-MOST_EVENTS.true))

pub returns-in_ok-step-in-None : goal.returns-in_ok-step-in-None
returns-in_ok-step-in-None c =
    steps_nowhere c.args.self.now c.args.event.now c.step.new.self (sym c.in-None.ensures) c.in_ok-step-in-None.ensures.stands (λ setup past h.
    let n = past_length setup past c.outcomes.result.now (c.outcomes.ensures.shown setup past h) in
    omega (arith, n, c.if-outcomes-ge-MOST_EVENTS.false))

pub step_at-requires-clause-few : goal.step_at-requires-clause-few
step_at-requires-clause-few c = λ setup past h.
    let n = past_length setup past c.outcomes.result.now (c.outcomes.ensures.shown setup past h) in
    omega (arith, n, c.if-outcomes-ge-MOST_EVENTS.false)
