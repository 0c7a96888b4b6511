-- What a test says.
use Rattle.std.proofs.Common.{◌≡◌, Bool, true, false, not, ◌⊎◌, inl, inr, refl}

-- either way of a test
pub by_bool : (P : Type 0) (b : Bool) → (b ≡ true → P) → (b ≡ false → P) → P
by_bool P true one two = one refl
by_bool P false one two = two refl

-- a test is met, or it isn't
pub either : (b : Bool) → (b ≡ true) ⊎ (b ≡ false)
either true = inl refl
either false = inr refl

pub not_true : (b : Bool) → not b ≡ true → b ≡ false
not_true true e = absurd (cc)
not_true false e = refl

pub not_false : (b : Bool) → not b ≡ false → b ≡ true
not_false true e = refl
not_false false e = absurd (cc)
