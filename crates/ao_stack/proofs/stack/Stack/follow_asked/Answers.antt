use Rattle.std.proofs.Common.{sym, subst}
use Rattle.book_stack.specs.Stacks.{watched}
use Rattle.stack_ends.specs.declared.send.Says.{Says}
use Rattle.ao_stack.specs.Stands.{Stands}
use Rattle.ao_stack.specs.Timers.{asked_by, asked_turn}
use Rattle.ao_stack.proofs.stack.Stack.follow_asked.Goals as goal

pub returns-in-Segment : goal.returns-in-Segment
returns-in-Segment c s S is =
    let t = watched c.args.pair.now (asked_by c.args.now c.args.spoken.now (s.watches c.args.pair.now)) s in
    subst (λ (w : Says). Stands c.touch.new.self (asked_turn c.args.pair.now w t)) (sym c.in-Segment.is) (c.touch.ensures t (c.time_asked.ensures s S is))

pub returns-in-NoKey : goal.returns-in-NoKey
returns-in-NoKey c s S is =
    let t = watched c.args.pair.now (asked_by c.args.now c.args.spoken.now (s.watches c.args.pair.now)) s in
    subst (λ (w : Says). Stands c.touch-in-NoKey.new.self (asked_turn c.args.pair.now w t)) (sym c.in-NoKey.is) (c.touch-in-NoKey.ensures t (c.time_asked.ensures s S is))
