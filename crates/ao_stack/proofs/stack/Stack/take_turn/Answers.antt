use Rattle.std.proofs.Common.{sym, subst}
use Rattle.book_link.specs.declared.event.Transmission.{Transmission}
use Rattle.ao_stack.specs.Turns.{Turns, turn_of}
use Rattle.ao_stack.proofs.stack.Stack.take_turn.Goals as goal

pub returns-in-New-clause-turns : goal.returns-in-New-clause-turns
returns-in-New-clause-turns g c s S = subst (λ (k : Transmission). Turns c.ask.new.self c.args.room.now c.ask.new.room c.ask.result (turn_of k c.args.now s)) (sym c.in-New.is) (c.ask.ensures.turns s S)

pub returns-in-Again-clause-turns : goal.returns-in-Again-clause-turns
returns-in-Again-clause-turns g c s S = subst (λ (k : Transmission). Turns c.wake.new.self c.args.room.now c.wake.new.room c.wake.result (turn_of k c.args.now s)) (sym c.in-Again.is) (c.wake.ensures.turns s S)
