-- Each byte but 0 has its inverse in the field, computed at all of them.
use Rattle.std.proofs.Common.{◌≡◌, ◌<◌, ℕ, ◌==◌, ◌||◌, Bool, true, refl, arith}
use Rattle.std.proofs.lemmas.Bool.{agree_below, agree_below_at, or_cases, eqb-true}
use Rattle.std.proofs.Common.{inl, inr}
use Rattle.book_macs.specs.Ciphers.{times, inverse}

abbrev is_inverted : ℕ → Bool
is_inverted a = (a == 0) || (times a (inverse a) == 1)

abbrev always : ℕ → Bool
always a = true

all_inverted : agree_below is_inverted always 256 ≡ true
unfolding times inverse
all_inverted = refl

pub inverted : (a : ℕ) → 0 < a → a < 256 → times a (inverse a) ≡ 1
inverted a some less = elim (or_cases (a == 0) (times a (inverse a) == 1) (agree_below_at is_inverted always 256 a all_inverted less)) [
  | inl zero ↦ let none = eqb-true a 0 zero in absurd (omega arith)
  | inr one ↦ eqb-true (times a (inverse a)) 1 one
]

pub none_inverted : inverse 0 ≡ 0
unfolding inverse times
none_inverted = refl
