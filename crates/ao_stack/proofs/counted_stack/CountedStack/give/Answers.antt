use Rattle.std.proofs.Common.{refl}
use Rattle.book_cmd_node.specs.declared.node.Act.TheVariants as act
use Rattle.book_stack.specs.Calls.{At}
use Rattle.ao_stack.specs.Answers.{IsGiven}
use Rattle.ao_stack.specs.declared.counted_stack.CountedStack.{CountedStack}
use Rattle.ao_stack.proofs.CountersStandLaws.{given_counts, plainly}
use Rattle.ao_stack.proofs.counted_stack.CountedStack.give.Goals as goal

pub returns : goal.returns
returns c s n S =
    let k = c.args.self.now in
    let after : CountedStack = record { stack = c.give.new.self; tallies = k.tallies; node = k.node } in
    let a = act.Give c.args.piece.now in
    let F = c.give.ensures s S.stack in
    plainly k after s n S (At c.args.pair.now a) (IsGiven c.give.result) F refl refl (given_counts c.args.pair.now a s n c.give.result refl F.answer)
