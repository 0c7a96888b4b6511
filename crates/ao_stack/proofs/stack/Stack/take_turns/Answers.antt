use Rattle.std.proofs.Common.{ℕ, ◌<◌, ◌≤◌, ◌-◌, ◌+◌, refl, ◌∙◌, subst, arith}
use Rattle.book_stack.specs.Turns.{turns}
use Rattle.ao_stack.specs.Turns.{turn_limit, turn_of}
use Rattle.ao_stack.proofs.TurnLaws.{going_first, going_on, going_some, going_end, left_next, left_none}
use Rattle.ao_stack.proofs.stack.Stack.take_turns.Goals as goal

pub loop-turn-init : goal.loop-turn-init
loop-turn-init g c = (λ s S. going_first (turn_of c.args.kind c.args.now) c.args.self.now c.args.room.now (turn_limit c.args.kind s) (turn_limit c.args.kind s - 0) s (omega arith) S, refl)

pub loop-turn-preserved : goal.loop-turn-preserved
loop-turn-preserved g c = (
  λ s S.
      let count = c.turn_limit-count.ensures s S in
      going_on (turns (turn_limit c.args.kind s) (turn_of c.args.kind c.args.now) s) (turn_of c.args.kind c.args.now) c.loop-turn.self c.take_turn.new.self c.args.room.now c.loop-turn.room c.take_turn.new.room (turn_limit c.args.kind s - c.loop-turn._turn) (turn_limit c.args.kind s - (c.loop-turn._turn + 1))
      (left_next (turn_limit c.args.kind s) c.loop-turn._turn (subst (λ (n : ℕ). c.loop-turn._turn < n) count c.loop-turn-test.true)) (c.loop-turn.invariant.0 s S) c.in-None.ensures.turns,
  c.in-None.ensures.costs ∙ c.loop-turn.invariant.1,
)

pub returns-in-Some-clause-turns : goal.returns-in-Some-clause-turns
returns-in-Some-clause-turns g c s S =
    let count = c.turn_limit-count.ensures s S in
    going_some (turns (turn_limit c.args.kind s) (turn_of c.args.kind c.args.now) s) (turn_of c.args.kind c.args.now) c.loop-turn.self c.take_turn.new.self c.args.room.now c.loop-turn.room c.take_turn.new.room c.in-Some.outgoing (turn_limit c.args.kind s - c.loop-turn._turn) (turn_limit c.args.kind s - (c.loop-turn._turn + 1))
    (left_next (turn_limit c.args.kind s) c.loop-turn._turn (subst (λ (n : ℕ). c.loop-turn._turn < n) count c.loop-turn-test.true)) (c.loop-turn.invariant.0 s S) c.in-Some.ensures.turns

pub returns-clause-turns : goal.returns-clause-turns
returns-clause-turns g c s S =
    let count = c.turn_limit-count.ensures s S in
    going_end (turns (turn_limit c.args.kind s) (turn_of c.args.kind c.args.now) s) (turn_of c.args.kind c.args.now) c.loop-turn.self c.loop-turn.self c.args.room.now c.loop-turn.room c.loop-turn.room (turn_limit c.args.kind s - c.loop-turn._turn) (left_none (turn_limit c.args.kind s) c.loop-turn._turn (subst (λ (n : ℕ). n ≤ c.loop-turn._turn) count c.loop-turn-test.false)) (c.loop-turn.invariant.0 s S)

pub returns-in-Some-clause-costs : goal.returns-in-Some-clause-costs
returns-in-Some-clause-costs g c = rw (← c.loop-turn.invariant.1) c.in-Some.ensures.costs

pub returns-clause-costs : goal.returns-clause-costs
returns-clause-costs g c = c.loop-turn.invariant.1
