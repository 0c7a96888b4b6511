use Rattle.std.proofs.Common.{Some, refl, sym, subst}
use Rattle.book_stack.specs.Calls.{Output}
use Rattle.ao_stack.specs.Answers.{Follows, IsHanded}
use Rattle.ao_stack.specs.declared.stack.Stack.{Stack}
use Rattle.ao_stack.specs.declared.counted_stack.CountedStack.{CountedStack}
use Rattle.ao_stack.proofs.CountersStandLaws.{hands_so, rests_so}
use Rattle.ao_stack.proofs.counted_stack.CountedStack.output_told.Goals as goal

pub returns-in-None-clause-handed : goal.returns-in-None-clause-handed
returns-in-None-clause-handed c s n S =
    let k = c.args.self.now in
    let after : CountedStack = record { stack = c.output_told.new.self; tallies = k.tallies; node = k.node } in
    rests_so k after s n S c.args.now c.output_told.new.room (c.in-None.ensures.handed s S.stack) refl refl

pub returns-in-Some-clause-handed : goal.returns-in-Some-clause-handed
returns-in-Some-clause-handed c s n S =
    let k = c.args.self.now in
    let room = c.output_told.new.room in
    let o = c.in-Some.outgoing in
    let F = subst (λ (x : Stack). Follows x (Output c.args.now) s (IsHanded room (Some o.length))) (sym c.count.ensures.stack) (c.in-Some.ensures.handed s S.stack) in
    hands_so k c.count.new.self s n S c.args.now room o c.ids_in_front-ids.result c.ids_in_front-ids.ensures F (c.in-Some.ensures.told s S.stack) c.count.ensures.node c.count.ensures.tallies
