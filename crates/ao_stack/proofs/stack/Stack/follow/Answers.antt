use Rattle.std.proofs.Common.{ap, subst, ◌∙◌, is_some}
use Rattle.book_stack.specs.declared.front.Front.{Front}
use Rattle.book_stack.specs.Calls.{after_segment_heard}
use Rattle.book_stack.specs.Watches.{moves_on}
use Rattle.ao_stack.specs.Stands.{Stands}
use Rattle.ao_stack.proofs.ArriveLaws.{front_found, front_missed}
use Rattle.ao_stack.proofs.stack.Stack.follow.Goals as goal

pub returns-in-None-clause-stands : goal.returns-in-None-clause-stands
returns-in-None-clause-stands c s e S is = absurd (front_missed _ e (c.in-None.ensures s.rows s.node S.ends) is)

pub returns-in-None-clause-moved : goal.returns-in-None-clause-moved
returns-in-None-clause-moved c s e S is = absurd (front_missed _ e (c.in-None.ensures s.rows s.node S.ends) is)

pub returns-in-Some-clause-stands : goal.returns-in-Some-clause-stands
returns-in-Some-clause-stands c s e S is =
    let found = front_found _ c.in-Some.after e (c.in-Some.ensures s.rows s.node S.ends) is in
    subst (λ (f : Front). Stands c.follow_change.new.self (after_segment_heard c.args.now c.args.pair.now c.args.arrival (record { before = c.args.before; after = f }) s)) found (c.follow_change.ensures s S (ap is_some is))

pub returns-in-Some-clause-moved : goal.returns-in-Some-clause-moved
returns-in-Some-clause-moved c s e S is =
    let found = front_found _ c.in-Some.after e (c.in-Some.ensures s.rows s.node S.ends) is in
    c.moves_on.ensures ∙ ap (λ (f : Front). moves_on (record { before = c.args.before; after = f })) found
