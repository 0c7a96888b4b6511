use Rattle.std.proofs.Common.{refl}
use Rattle.book_stack.specs.Calls.{Withdraw}
use Rattle.ao_stack.specs.Answers.{IsWithdrawn}
use Rattle.ao_stack.specs.declared.counted_stack.CountedStack.{CountedStack}
use Rattle.ao_stack.proofs.CountersCallLaws.{withdraw_counts}
use Rattle.ao_stack.proofs.CountersStandLaws.{plainly}
use Rattle.ao_stack.proofs.counted_stack.CountedStack.withdraw.Goals as goal

pub returns : goal.returns
returns c s n S =
    let k = c.args.self.now in
    let after : CountedStack = record { stack = c.withdraw.new.self; tallies = k.tallies; node = k.node } in
    plainly k after s n S (Withdraw c.args.number) (IsWithdrawn c.withdraw.result) (c.withdraw.ensures s S.stack) refl refl (withdraw_counts c.args.number s n)
