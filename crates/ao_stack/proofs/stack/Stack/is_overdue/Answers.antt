use Rattle.std.proofs.Common.{sym, ap, ◌∙◌}
use Rattle.book_stack.specs.declared.front.Front.{Front}
use Rattle.book_stack.specs.Stacks.{timed_out}
use Rattle.book_stack.specs.Watches.{ConnectionWatch, is_overdue, silence}
use Rattle.ao_stack.proofs.ArriveLaws.{no_front, some_front}
use Rattle.ao_stack.proofs.StandLaws.{seen_as}
use Rattle.ao_stack.proofs.stack.Stack.is_overdue.Goals as goal

pub returns-in-None : goal.returns-in-None
returns-in-None c s S = sym (ap (timed_out c.args.now c.args.pair.now s) (no_front _ (c.in-None.ensures s.rows s.node S.ends)))

pub returns-in-Some-get : goal.returns-in-Some-get
returns-in-Some-get c s S =
    let now = c.args.now in
    let p = c.args.pair.now in
    let f = some_front _ c.in-Some.front (c.in-Some.ensures s.rows s.node S.ends) in
    c.is_overdue.ensures ∙ ap (λ (w : ConnectionWatch). is_overdue (silence now c.in-Some.front.phase w)) (seen_as c.args.self.now c.args.self.now s S p c.in-Some-get.watch.now c.in-Some-get.ensures)
    ∙ ap (λ (x : Front). is_overdue (silence now x.phase (s.watches p))) f.2 ∙ sym (ap (timed_out now p s) f.1)
