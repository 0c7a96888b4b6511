use Rattle.std.proofs.Common.{length, refl}
use Rattle.book_cmd_node.specs.declared.node.Act.TheVariants as act
use Rattle.book_stack.specs.Calls.{At}
use Rattle.ao_stack.specs.Answers.{IsTaken}
use Rattle.ao_stack.specs.declared.counted_stack.CountedStack.{CountedStack}
use Rattle.ao_stack.proofs.CountersStandLaws.{plainly, taken_counts}
use Rattle.ao_stack.proofs.counted_stack.CountedStack.take.Goals as goal

pub returns-clause-taken : goal.returns-clause-taken
returns-clause-taken c s n S =
    let k = c.args.self.now in
    let after : CountedStack = record { stack = c.take.new.self; tallies = k.tallies; node = k.node } in
    let a = act.Take (length c.args.room.now) in
    let F = c.take.ensures.taken s S.stack in
    plainly k after s n S (At c.args.pair.now a) (IsTaken c.args.room.now c.take.new.room c.take.result) F refl refl (taken_counts c.args.pair.now a s n c.args.room.now c.take.new.room c.take.result F.answer)
