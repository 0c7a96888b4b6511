use Rattle.std.proofs.Common.{refl, length}
use Rattle.book_cmd_node.specs.declared.node.Act.TheVariants as act
use Rattle.book_cmd_node.specs.NodeRuns.{Delivered}
use Rattle.stack_ends.specs.Calls.{Takes}
use Rattle.ao_stack.specs.Answers.{IsTaken}
use Rattle.std.specs.Prelude.{Some, None}
use Rattle.ao_stack.specs.declared.stack.Stack.{Stack}
use Rattle.ao_stack.proofs.ActLaws.{call_follows, has_called, not_called}
use Rattle.ao_stack.proofs.stack.Stack.take.Goals as goal

pub returns-in-None-clause-taken : goal.returns-in-None-clause-taken
returns-in-None-clause-taken c s S =
    not_called c.args.self.now _ s S c.args.pair.now (act.Take (length c.args.room.now)) c.take.ensures.most refl refl refl (Takes c.args.room.now c.take.new.room) (IsTaken c.args.room.now c.take.new.room None) refl (c.in-None.ensures.called s.rows s.node S.ends) refl

pub returns-in-Some-clause-taken : goal.returns-in-Some-clause-taken
returns-in-Some-clause-taken c s S =
    let k = c.args.self.now in
    let mid : Stack = record { ends = c.take.new.self; watches = k.watches; alarms = k.alarms; line = k.line } in
    let a = act.Take (length c.args.room.now) in
    let t = c.in-Some.taken in
    let does = Takes c.args.room.now c.take.new.room in
    let H = has_called k mid s S c.args.pair.now a c.take.ensures.most refl refl refl does t (c.in-Some.ensures.called s.rows s.node S.ends) in
    let T = H.done in
    call_follows mid _ s c.args.pair.now a does t (IsTaken c.args.room.now c.take.new.room (Some t)) (Delivered T.bytes t.at_end) H refl T.outcome (c.touch.ensures _ H.stands) (record { bytes = T.bytes; answer = refl; count = T.count; filled = T.filled })
