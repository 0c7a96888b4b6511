use Rattle.std.proofs.Common.{refl}
use Rattle.book_cmd_node.specs.declared.node.Act.TheVariants as act
use Rattle.book_cmd_node.specs.NodeRuns.{Performed}
use Rattle.stack_ends.specs.Calls as calling
use Rattle.ao_stack.specs.Answers.{IsDone}
use Rattle.std.specs.Prelude.{true, false}
use Rattle.ao_stack.specs.declared.stack.Stack.{Stack}
use Rattle.ao_stack.proofs.ActLaws.{call_follows, has_called, not_called}
use Rattle.ao_stack.proofs.stack.Stack.close.Goals as goal

pub returns-in-None : goal.returns-in-None
returns-in-None c s S = not_called c.args.self.now _ s S c.args.pair.now act.Close c.close.ensures.most refl refl refl calling.IsDone (IsDone false) refl (c.in-None.ensures.called s.rows s.node S.ends) refl

pub returns-in-Some : goal.returns-in-Some
returns-in-Some c s S =
    let k = c.args.self.now in
    let mid : Stack = record { ends = c.close.new.self; watches = k.watches; alarms = k.alarms; line = k.line } in
    let H = has_called k mid s S c.args.pair.now act.Close c.close.ensures.most refl refl refl calling.IsDone tt (c.in-Some.ensures.called s.rows s.node S.ends) in
    call_follows mid _ s c.args.pair.now act.Close calling.IsDone tt (IsDone true) Performed H refl H.done (c.touch.ensures _ H.stands) refl
