use Rattle.std.proofs.Common.{refl}
use Rattle.book_cmd_node.specs.declared.node.Act.TheVariants as act
use Rattle.book_stack.specs.Calls.{At}
use Rattle.ao_stack.specs.Answers.{IsDone}
use Rattle.ao_stack.specs.declared.counted_stack.CountedStack.{CountedStack}
use Rattle.ao_stack.proofs.CountersStandLaws.{done_counts, plainly}
use Rattle.ao_stack.proofs.counted_stack.CountedStack.abort.Goals as goal

pub returns : goal.returns
returns c s n S =
    let k = c.args.self.now in
    let after : CountedStack = record { stack = c.abort.new.self; tallies = k.tallies; node = k.node } in
    let F = c.abort.ensures s S.stack in
    plainly k after s n S (At c.args.pair.now act.Abort) (IsDone c.abort.result) F refl refl (done_counts c.args.pair.now act.Abort s n c.abort.result refl F.answer)
