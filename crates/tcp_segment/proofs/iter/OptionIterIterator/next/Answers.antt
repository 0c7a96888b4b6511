use Rattle.std.proofs.Common.{length, sym, ap, arith, ◌∙◌}
use Rattle.book_segments.specs.Options.{Options, options_of, plains, listed}
use Rattle.book_segments.proofs.Walks.{leading_listed, leading_plains, ending_at, nothing_at, not_short, not_long}
use Rattle.tcp_segment.proofs.iter.OptionIterIterator.next.Goals as goal

pub invariant_of-self : goal.invariant_of-self
invariant_of-self c = leading_listed c.self.inside.rest.now _ _ _ _ c.in-Leading.ensures c.self.invariant

pub invariant_of-self-in-Ending : goal.invariant_of-self-in-Ending
unfolding options_of
invariant_of-self-in-Ending c = tt

pub returns-in-Leading-clause-steps : goal.returns-in-Leading-clause-steps
returns-in-Leading-clause-steps c = sym c.self.view_is ∙ leading_plains c.self.inside.rest.now _ _ _ _ c.in-Leading.ensures c.self.invariant

pub returns-in-Leading-clause-goes : goal.returns-in-Leading-clause-goes
returns-in-Leading-clause-goes c =
    let e = ap length (sym c.self.view_is ∙ leading_plains c.self.inside.rest.now _ _ _ _ c.in-Leading.ensures c.self.invariant) in
    record { on = λ f. (tt, tt, omega (arith, e)); keeps = tt; rests = λ f. tt }

pub returns-in-Ending-clause-steps : goal.returns-in-Ending-clause-steps
unfolding options_of
returns-in-Ending-clause-steps c = sym c.self.view_is ∙ ap (λ (o : Options). plains (listed o)) (ending_at 0 c.self.inside.rest.now c.in-Ending.ensures)

pub returns-in-Ending-clause-goes : goal.returns-in-Ending-clause-goes
unfolding options_of
returns-in-Ending-clause-goes c =
    let e = ap length (sym c.self.view_is ∙ ap (λ (o : Options). plains (listed o)) (ending_at 0 c.self.inside.rest.now c.in-Ending.ensures)) in
    record { on = λ f. (tt, tt, omega (arith, e)); keeps = tt; rests = λ f. tt }

pub returns-in-NoMore-clause-steps : goal.returns-in-NoMore-clause-steps
unfolding options_of
returns-in-NoMore-clause-steps c = let e = sym c.self.view_is ∙ ap (λ (o : Options). plains (listed o)) (nothing_at 0 c.self.inside.rest.now c.in-NoMore.ensures) in (e, e)

pub unreachable-requires : goal.unreachable-requires
unfolding options_of
unreachable-requires c = absurd (not_short 0 c.self.inside.rest.now c.self.invariant c.in-TooShort.ensures)

pub unreachable-requires-in-TooLong : goal.unreachable-requires-in-TooLong
unfolding options_of
unreachable-requires-in-TooLong c = absurd (not_long 0 c.self.inside.rest.now c.self.invariant c.in-TooLong.ensures)
