use Rattle.std.proofs.Common.{refl, ap, ◌∙◌}
use Rattle.ao_stack.specs.declared.stack.Stack.{Stack}
use Rattle.ao_stack.proofs.SendLaws.{left_all, wake_first, wake_nobody}
use Rattle.ao_stack.proofs.StandLaws.{left_alarms}
use Rattle.ao_stack.proofs.stack.Stack.wake.Goals as goal
use Rattle.stack_timers.specs.Places.{left_due, taken_due}

pub returns-in-None-clause-turns : goal.returns-in-None-clause-turns
returns-in-None-clause-turns g c s S =
    let k = c.args.self.now in
    let mid : Stack = record { ends = k.ends; watches = k.watches; alarms = c.take_due.new.self; line = k.line } in
    let none = c.in-None.ensures.taken ∙ ap (taken_due c.args.now) S.alarms in
    let left = c.take_due.ensures.left ∙ ap (left_due c.args.now) S.alarms ∙ left_all c.args.now s.alarms none in
    wake_nobody mid c.args.room.now c.args.now s (left_alarms k mid s S s.alarms refl refl left c.take_due.ensures.most refl) none

pub returns-in-Some-clause-turns : goal.returns-in-Some-clause-turns
returns-in-Some-clause-turns g c s S =
    let k = c.args.self.now in
    let between : Stack = record { ends = k.ends; watches = k.watches; alarms = c.take_due.new.self; line = k.line } in
    let p = c.in-Some.pair in
    let some = c.in-Some.ensures.taken ∙ ap (taken_due c.args.now) S.alarms in
    let M = left_alarms k between s S (left_due c.args.now s.alarms) refl refl (c.take_due.ensures.left ∙ ap (left_due c.args.now) S.alarms) c.take_due.ensures.most refl in
    wake_first _ c.args.room.now c.wake_pair.new.room c.wake_pair.result c.args.now s p some (c.wake_pair.ensures.turns _ M)
