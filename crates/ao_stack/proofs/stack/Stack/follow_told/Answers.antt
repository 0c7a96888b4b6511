use Rattle.std.proofs.Common.{sym, subst, ◌∙◌}
use Rattle.book_endpoint.specs.declared.arrival.Arrival.{Arrival}
use Rattle.book_stack.specs.Calls.{after_segment_heard}
use Rattle.book_stack.specs.Watches.{end_front}
use Rattle.ao_stack.specs.Stands.{Stands}
use Rattle.ao_stack.proofs.ArriveLaws.{told_same}
use Rattle.ao_stack.proofs.stack.Stack.follow_told.Goals as goal

pub returns-in-Bad-clause-stands : goal.returns-in-Bad-clause-stands
returns-in-Bad-clause-stands c s e p arrived S is at = let bad = c.in-Bad.is in absurd (cc)

pub returns-in-Bad-clause-moved : goal.returns-in-Bad-clause-moved
returns-in-Bad-clause-moved c s e p arrived S is at = let bad = c.in-Bad.is in absurd (cc)

pub returns-in-NoConnection-clause-stands : goal.returns-in-NoConnection-clause-stands
returns-in-NoConnection-clause-stands c s e p arrived S is at = let none = c.in-NoConnection.is in absurd (cc)

pub returns-in-NoConnection-clause-moved : goal.returns-in-NoConnection-clause-moved
returns-in-NoConnection-clause-moved c s e p arrived S is at = let none = c.in-NoConnection.is in absurd (cc)

pub returns-in-At-clause-stands : goal.returns-in-At-clause-stands
returns-in-At-clause-stands c s e p arrived S is at =
    subst (λ (x : Arrival). Stands c.follow.new.self (after_segment_heard c.args.now c.args.pair.now x (record { before = c.args.before; after = end_front e }) s)) (told_same c.in-At.field-0 p c.in-At.arrived arrived (sym c.in-At.is ∙ at)) (c.follow.ensures.stands s e S is)

pub returns-in-At-clause-moved : goal.returns-in-At-clause-moved
returns-in-At-clause-moved c s e p arrived S is at = c.follow.ensures.moved s e S is
