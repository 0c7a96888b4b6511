use Rattle.std.proofs.Common.{refl}
use Rattle.book_cmd_node.specs.declared.node.Act.TheVariants as act
use Rattle.stack_ends.specs.Calls.{Gives, given_as}
use Rattle.ao_stack.specs.Answers.{IsGiven}
use Rattle.std.specs.Prelude.{Some, None}
use Rattle.ao_stack.specs.declared.stack.Stack.{Stack}
use Rattle.ao_stack.proofs.ActLaws.{call_follows, has_called, not_called}
use Rattle.ao_stack.proofs.stack.Stack.give.Goals as goal

pub returns-in-None : goal.returns-in-None
returns-in-None c s S =
    not_called c.args.self.now _ s S c.args.pair.now (act.Give c.args.piece.now) c.give.ensures.most refl refl refl Gives (IsGiven None) refl (c.in-None.ensures.called s.rows s.node S.ends) refl

pub returns-in-Some : goal.returns-in-Some
returns-in-Some c s S =
    let k = c.args.self.now in
    let mid : Stack = record { ends = c.give.new.self; watches = k.watches; alarms = k.alarms; line = k.line } in
    let a = act.Give c.args.piece.now in
    let H = has_called k mid s S c.args.pair.now a c.give.ensures.most refl refl refl Gives c.in-Some.answer (c.in-Some.ensures.called s.rows s.node S.ends) in
    call_follows mid _ s c.args.pair.now a Gives c.in-Some.answer (IsGiven (Some c.in-Some.answer)) (given_as c.in-Some.answer) H refl H.done (c.follow_given.ensures _ c.args.piece.now H.stands) refl
