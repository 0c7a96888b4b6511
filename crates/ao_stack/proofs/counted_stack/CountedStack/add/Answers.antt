use Rattle.std.proofs.Common.{refl}
use Rattle.ao_stack.specs.declared.counted_stack.CountedStack.{CountedStack}
use Rattle.ao_stack.proofs.CountersStandLaws.{added_so}
use Rattle.ao_stack.proofs.counted_stack.CountedStack.add.Goals as goal

pub returns : goal.returns
returns c s n S =
    let k = c.args.self.now in
    let after : CountedStack = record { stack = c.add.new.self; tallies = k.tallies; node = k.node } in
    added_so k after s n S c.args.row c.add.result (c.add.ensures s S.stack) refl refl
