use Rattle.std.proofs.Common.{Bool, false, refl, subst}
use Rattle.book_cmd_node.specs.declared.node.Act.TheVariants as act
use Rattle.book_cmd_node.specs.NodeRuns.{NoConnection}
use Rattle.book_stack.specs.Calls.{At}
use Rattle.ao_stack.specs.Answers.{Follows, IsDone}
use Rattle.ao_stack.specs.declared.counted_stack.CountedStack.{CountedStack}
use Rattle.ao_stack.proofs.CountersCallLaws.{at_counts}
use Rattle.ao_stack.proofs.CountersStandLaws.{dropped_so, plainly}
use Rattle.ao_stack.proofs.counted_stack.CountedStack.remove.Goals as goal

pub returns-then-not-held : goal.returns-then-not-held
returns-then-not-held c s n S =
    let k = c.args.self.now in
    let p = c.args.pair.now in
    let after : CountedStack = record { stack = c.remove-held.new.self; tallies = k.tallies; node = k.node } in
    let F = subst (λ (b : Bool). Follows c.remove-held.new.self (At p act.Remove) s (IsDone b)) c.if-not-held.true (c.remove-held.ensures s S.stack) in
    plainly k after s n S (At p act.Remove) (IsDone false) F refl refl (at_counts p act.Remove s n NoConnection F.answer)

pub returns : goal.returns
returns c s n S =
    let k = c.args.self.now in
    let p = c.args.pair.now in
    let after : CountedStack = record { stack = c.remove-held.new.self; tallies = c.remove.new.self; node = k.node } in
    let F = subst (λ (b : Bool). Follows c.remove-held.new.self (At p act.Remove) s (IsDone b)) c.if-not-held.false (c.remove-held.ensures s S.stack) in
    dropped_so k after s n S p F refl c.remove.ensures
