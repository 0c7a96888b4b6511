-- By cases on a test.
use Rattle.std.proofs.Common.{◌≡◌, ℕ, ◌==◌, Bool, true, false, not, ◌&&◌, if◌then◌else◌, refl, arith}
use Rattle.std.proofs.lemmas.Bool.Decides.{nat_tests}

-- what holds of both branches
pub choose : {X : Type 0} (P : X → Type 0) (b : Bool) (t u : X) → (b ≡ true → P t) → (b ≡ false → P u) → P (if b then t else u)
choose P true t u one two = one refl
choose P false t u one two = two refl

pub and_false : (a b : Bool) → a ≡ true → (a && b) ≡ false → b ≡ false
and_false true b e f = f
and_false false b e f = absurd (cc)

pub eqb_refl : (x : ℕ) → (x == x) ≡ true
eqb_refl x = grind (arith, nat_tests)
