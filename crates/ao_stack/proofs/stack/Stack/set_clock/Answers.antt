use Rattle.std.proofs.Common.{refl, sym, subst, ◌∙◌, ◌/◌}
use Rattle.book_cmd_node.specs.NodeRuns.{NodeState, ends_ticked}
use Rattle.book_stack.specs.Stacks.{StackState}
use Rattle.ao_stack.specs.declared.stack.Stack.{Stack}
use Rattle.ao_stack.specs.Stands.{Stands}
use Rattle.ao_stack.proofs.CallLaws.{clock_goes}
use Rattle.ao_stack.proofs.StandLaws.{moved, some_ticked}
use Rattle.ao_stack.proofs.stack.Stack.set_clock.Goals as goal

pub returns : goal.returns
returns c s S =
    let k = c.args.self.now in
    let after : Stack = record { ends = c.tick.new.self; watches = k.watches; alarms = k.alarms; line = k.line } in
    let seconds = c.args.now / 1000 in
    let n : NodeState = record { clock = seconds; ends = ends_ticked seconds s.node.ends } in
    subst (λ (t : StackState). Stands after t) (sym (clock_goes c.args.now s (λ e. c.if-clock-seconds.false (c.clock.ensures.clock s.rows s.node S.ends ∙ e))))
    (moved k after s S n (c.tick.ensures.ticks s.rows s.node S.ends) c.tick.ensures.most refl refl refl (λ q. some_ticked seconds q s.node.ends))
