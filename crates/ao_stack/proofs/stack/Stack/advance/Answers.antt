use Rattle.std.proofs.Common.{length}
use Rattle.book_stack.specs.Stacks.{StackState}
use Rattle.book_stack.specs.Turns.{Turn, ask, clocked, then_turn, turns, wake}
use Rattle.ao_stack.proofs.TurnLaws.{clocked_hands, earlier, none_of, turned_none, turned_some}
use Rattle.ao_stack.proofs.stack.Stack.advance.Goals as goal

pub returns-in-None-clause-turns : goal.returns-in-None-clause-turns
returns-in-None-clause-turns g c s S =
    let t = clocked c.args.now s in
    let S' = c.set_clock.ensures s S in
    let T = c.in-None.ensures.turns t.stack S' in
    let u = turns (length t.stack.line) (ask c.args.now) t.stack in
    let later : StackState → Turn = λ x. turns (length x.alarms) (wake c.args.now) x in
    let then : StackState → Turn = λ x. then_turn (turns (length x.line) (ask c.args.now) x) later in
    turned_none _ _ _ _ t then (clocked_hands c.args.now s) (turned_none _ _ _ _ u later (none_of _ _ _ u T) (earlier _ _ _ _ _ _ T.stays (c.take_turns-in-None.ensures.turns u.stack T.stands)))

pub returns-in-Some-clause-turns : goal.returns-in-Some-clause-turns
returns-in-Some-clause-turns g c s S =
    let t = clocked c.args.now s in
    let S' = c.set_clock.ensures s S in
    let T = c.in-Some.ensures.turns t.stack S' in
    let u = turns (length t.stack.line) (ask c.args.now) t.stack in
    let later : StackState → Turn = λ x. turns (length x.alarms) (wake c.args.now) x in
    let then : StackState → Turn = λ x. then_turn (turns (length x.line) (ask c.args.now) x) later in
    turned_none _ _ _ _ t then (clocked_hands c.args.now s) (turned_some _ _ _ c.in-Some.outgoing u later T)

pub returns-in-None-clause-costs : goal.returns-in-None-clause-costs
returns-in-None-clause-costs g c = rw (← c.in-None.ensures.costs) c.take_turns-in-None.ensures.costs
