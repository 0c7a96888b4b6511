use Rattle.std.proofs.Common.{refl}
use Rattle.book_stack.specs.Watches.{arrived}
use Rattle.ao_stack.proofs.StandLaws.{retimed, timer_missed}
use Rattle.ao_stack.proofs.stack.Stack.time_arrival.Goals as goal

pub returns-in-None : goal.returns-in-None
returns-in-None c s S is = absurd (timer_missed c.args.self.now c.args.self.now s S c.args.pair.now is c.in-None.ensures.watch)

pub returns-in-Some : goal.returns-in-Some
returns-in-Some c s S is = retimed c.args.self.now _ s S c.args.pair.now c.in-Some.watch.now c.arrive.new.self (arrived c.args.now c.args.change) c.deadline-deadline.result is c.in-Some.ensures.watch c.arrive.ensures c.deadline-deadline.ensures refl refl c.set.ensures.alarms c.set.ensures.most refl
