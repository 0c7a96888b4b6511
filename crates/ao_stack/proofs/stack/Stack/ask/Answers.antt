use Rattle.std.proofs.Common.{refl, sym, ap, ◌∙◌}
use Rattle.ao_stack.specs.declared.stack.Stack.{Stack}
use Rattle.ao_stack.proofs.SendLaws.{ask_first, ask_nobody, first_in_line, nobody}
use Rattle.ao_stack.proofs.StandLaws.{left_line}
use Rattle.ao_stack.proofs.stack.Stack.ask.Goals as goal
use Rattle.stack_timers.specs.Places.{behind_first, first_of}

pub returns-in-None-clause-turns : goal.returns-in-None-clause-turns
returns-in-None-clause-turns g c s S =
    let k = c.args.self.now in
    let mid : Stack = record { ends = k.ends; watches = k.watches; alarms = k.alarms; line = c.take_first.new.self } in
    let none = nobody s.line (c.in-None.ensures.taken ∙ ap first_of S.line) in
    let left = c.take_first.ensures.left ∙ ap behind_first (S.line ∙ none) ∙ sym none in
    ask_nobody mid c.args.room.now c.args.now s (left_line k mid s S s.line refl refl refl left c.take_first.ensures.most) none

pub returns-in-Some-clause-turns : goal.returns-in-Some-clause-turns
returns-in-Some-clause-turns g c s S =
    let k = c.args.self.now in
    let between : Stack = record { ends = k.ends; watches = k.watches; alarms = k.alarms; line = c.take_first.new.self } in
    let p = c.in-Some.pair in
    let first = first_in_line s.line p (c.in-Some.ensures.taken ∙ ap first_of S.line) in
    let M = left_line k between s S (behind_first s.line) refl refl refl (c.take_first.ensures.left ∙ ap behind_first S.line) c.take_first.ensures.most in
    ask_first _ c.args.room.now c.ask_pair.new.room c.ask_pair.result c.args.now s p (behind_first s.line) first (c.ask_pair.ensures.turns _ M)
