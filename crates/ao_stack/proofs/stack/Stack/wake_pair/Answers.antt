use Rattle.std.proofs.Common.{refl}
use Rattle.book_cmd_node.specs.declared.node.Act.TheVariants as act
use Rattle.book_stack.specs.Turns.{called_at, repeated_by}
use Rattle.stack_ends.specs.Calls.{Tells}
use Rattle.ao_stack.specs.declared.stack.Stack.{Stack}
use Rattle.ao_stack.proofs.ActLaws.{has_called, missed}
use Rattle.ao_stack.proofs.SendLaws.{woken_so, woken_none, held_after, held_before}
use Rattle.ao_stack.proofs.TellLaws.{repeated_from}
use Rattle.ao_stack.proofs.stack.Stack.wake_pair.Goals as goal

pub returns-in-None-clause-turns : goal.returns-in-None-clause-turns
returns-in-None-clause-turns g c s S =
    let k = c.args.self.now in
    let mid : Stack = record { ends = c.repeat.new.self; watches = k.watches; alarms = k.alarms; line = k.line } in
    let M = missed k mid s S c.args.pair.now act.Resend c.repeat.ensures.most refl refl refl (Tells c.repeat.new.room) (c.in-None.ensures.called s.rows s.node S.ends) in
    woken_none mid c.args.room.now c.repeat.new.room c.args.now s c.args.pair.now M.1 M.0 c.in-None.ensures.room

pub returns-in-Some-clause-turns : goal.returns-in-Some-clause-turns
returns-in-Some-clause-turns g c s S =
    let k = c.args.self.now in
    let mid : Stack = record { ends = c.repeat.new.self; watches = k.watches; alarms = k.alarms; line = k.line } in
    let p = c.args.pair.now in
    let H = has_called k mid s S p act.Resend c.repeat.ensures.most refl refl refl (Tells c.repeat.new.room) c.in-Some.spoken (c.in-Some.ensures.called s.rows s.node S.ends) in
    woken_so mid _ s p c.args.now c.args.room.now c.repeat.new.room c.made.new.room c.in-Some.spoken c.made.result H
    (c.touch.ensures _ (c.time_woken.ensures (called_at p (repeated_by s p H.state) s) H.stands (held_after s p H.state (repeated_by s p H.state) H.held)))
    (c.made.ensures.makes c.args.room.now (repeated_by s p H.state).outcome (S.family p (held_before s p H.state H.held)) H.done.says_as (repeated_from s.rows p s.node.clock H.state) c.in-Some.ensures.room)

pub returns-in-Some-clause-costs : goal.returns-in-Some-clause-costs
returns-in-Some-clause-costs g c = c.made.ensures.costs c.args.steps.now c.repeat.new.steps c.in-Some.ensures.costs
