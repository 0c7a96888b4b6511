use Rattle.std.proofs.Common.{refl, arith, ◌≡◌, ◌≢◌, ◌<◌, length}
use Rattle.std.specs.Prelude.{slice_index}
use Rattle.std.proofs.lemmas.Bool.Decides.{nat_tests}
use Rattle.book_why.specs.Changes.{without_zeros}
use Rattle.scope_why.proofs.ZerosLaws.{after_other, after_zero}
use Rattle.scope_why.proofs.masters.zeros_from.Goals as goal
use Rattle.scope_why.proofs.masters.zeros_from.Goals.{then-bytes-i-ne0, else-bytes-i-ne0}

pub loop-i-init : goal.loop-i-init
unfolding without_zeros
loop-i-init c = record { within = omega arith; front = refl }

pub loop-i-preserved : goal.loop-i-preserved
loop-i-preserved c = elim c.if-bytes-i-ne0.branch [
  | then-bytes-i-ne0 w ↦
      let low : c.loop-i.i < length c.args.bytes.now = omega (arith, c.loop-i-test.true) in
      let differs : slice_index c.args.bytes.now c.loop-i.i ≢ 0 = grind (arith, nat_tests, w.if-bytes-i-ne0) in
      rw w.end-is (after_other c.args.bytes.now c.loop-i.i low differs)
  | else-bytes-i-ne0 w ↦
      let low : c.loop-i.i < length c.args.bytes.now = omega (arith, c.loop-i-test.true) in
      let is : slice_index c.args.bytes.now c.loop-i.i ≡ 0 = grind (arith, nat_tests, w.if-bytes-i-ne0) in
      rw w.end-is (after_zero c.args.bytes.now c.loop-i.i c.loop-i.end low is c.loop-i.invariant)
]
