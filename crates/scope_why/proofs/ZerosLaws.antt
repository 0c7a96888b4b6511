-- Where the zeros at the end of bytes begin.
use Rattle.std.proofs.Common.{◌≡◌, ◌≢◌, ℕ, zero, suc, ◌+◌, ◌≤◌, ◌<◌, List, [], ◌∷◌, ◌++◌, length, take, slice_index, refl, sym, ap, ◌∙◌, subst, add-one, arith}
use Rattle.std.specs.Prelude.{◌==◌, Bool, true, false, if◌then◌else◌}
use Rattle.std.proofs.lemmas.Bool.Decides.{nat_tests}
use Rattle.book_why.specs.Changes.{unless_last_zero, without_zeros}

-- of the bytes up to i, those up to end are there without the zeros at their end
pub record ZerosFrom (bytes : List ℕ) (i end : ℕ) : Type 0 where
  pub within : end ≤ i
  pub front : take end bytes ≡ without_zeros (take i bytes)

take_suc : (i : ℕ) (bytes : List ℕ) → i < length bytes → take (suc i) bytes ≡ take i bytes ++ slice_index bytes i ∷ []
take_suc i [] low = absurd (omega (arith, low))
take_suc zero (b ∷ bs) low = refl
take_suc (suc i) (b ∷ bs) low = ap (λ (l : List ℕ). b ∷ l) (take_suc i bs (omega (arith, low)))

-- one byte more
pub take_more : (i : ℕ) (bytes : List ℕ) → i < length bytes → take (i + 1) bytes ≡ take i bytes ++ slice_index bytes i ∷ []
take_more i bytes low = ap (λ (k : ℕ). take k bytes) (add-one i) ∙ take_suc i bytes low

with_zero : (bytes : List ℕ) → without_zeros (bytes ++ 0 ∷ []) ≡ without_zeros bytes
unfolding without_zeros
with_zero [] = refl
with_zero (b ∷ bs) = ap (unless_last_zero b) (with_zero bs)

put_in_front : (b c : ℕ) (bs : List ℕ) → unless_last_zero b (bs ++ c ∷ []) ≡ b ∷ (bs ++ c ∷ [])
put_in_front b c [] = refl
put_in_front b c (d ∷ ds) = refl

with_other : (c : ℕ) (bytes : List ℕ) → (c == 0) ≡ false → without_zeros (bytes ++ c ∷ []) ≡ bytes ++ c ∷ []
unfolding without_zeros
with_other c [] other = rw other refl
with_other c (b ∷ bs) other = ap (unless_last_zero b) (with_other c bs other) ∙ put_in_front b c bs

pub after_zero : (bytes : List ℕ) (i end : ℕ) → i < length bytes → slice_index bytes i ≡ 0 → ZerosFrom bytes i end → ZerosFrom bytes (i + 1) end
after_zero bytes i end low is z = record {
  within = let w = z.within in omega (arith, w);
  front = z.front ∙ (sym (with_zero (take i bytes)) ∙ ap without_zeros (sym (take_more i bytes low ∙ ap (λ (b : ℕ). take i bytes ++ b ∷ []) is)));
}

is_other : (c : ℕ) → c ≢ 0 → (c == 0) ≡ false
is_other c differs = grind (arith, nat_tests, differs)

pub after_other : (bytes : List ℕ) (i : ℕ) → i < length bytes → slice_index bytes i ≢ 0 → ZerosFrom bytes (i + 1) (i + 1)
after_other bytes i low differs = record {
  within = omega arith;
  front = take_more i bytes low ∙ (sym (with_other (slice_index bytes i) (take i bytes) (is_other (slice_index bytes i) differs)) ∙ ap without_zeros (sym (take_more i bytes low)));
}
