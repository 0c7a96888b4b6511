use Rattle.std.proofs.Common.{◌≡◌, ◌-◌}
use Rattle.book_stack.specs.Stacks.{StackState}
use Rattle.book_stack.specs.Turns.{turns}
use Rattle.ao_stack.specs.Stands.{Stands}
use Rattle.ao_stack.specs.Turns.{turn_limit, turn_of}
use Rattle.ao_stack.proofs.TurnLaws.{Going}
use Rattle.ao_stack.proofs.stack.Stack.take_turns.Given as goal

-- what is left of the turns comes to what all come to, and no step was counted
abbrev pub invariant-loop-turn : goal.invariant-loop-turn
invariant-loop-turn g l = ((s : StackState) → Stands l.fn.self s → Going (turns (turn_limit l.kind s) (turn_of l.kind l.fn.now) s) (turn_of l.kind l.fn.now) l.self l.fn.room l.room (turn_limit l.kind s - l._turn)) × (l.steps ≡ l.fn.steps)
