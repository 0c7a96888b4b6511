-- Two words behind what they begin with in common, byte by byte.
use Rattle.std.proofs.Common.{◌≡◌, inl, inr, ℕ, ◌+◌, ◌<◌, ◌≤◌, ◌==◌, min, not, Bool, true, false, cond, List, [], ◌∷◌, length, drop, refl, sym, ap, ◌∙◌, arith}
use Rattle.std.specs.Prelude.{slice_index}
use Rattle.std.proofs.lemmas.List.{drop_all, drop_more}
use Rattle.std.proofs.Math.Nat.{eq-or-lt_of_le}
use Rattle.book_scope_texts.specs.Suggestions.{Parted, parted}

pub not_true : (b : Bool) → not b ≡ true → b ≡ false
not_true true h = absurd (cc)
not_true false h = refl

pub not_false : (b : Bool) → not b ≡ false → b ≡ true
not_false true h = refl
not_false false h = absurd (cc)

same_byte : (b : Bool) (p q : Parted) → b ≡ true → cond b p q ≡ p
same_byte true p q h = refl
same_byte false p q h = absurd (cc)

other_byte : (b : Bool) (p q : Parted) → b ≡ false → cond b p q ≡ q
other_byte false p q h = refl
other_byte true p q h = absurd (cc)

-- one byte more
pub parted_more : (xs ys : List ℕ) (at : ℕ) → at < length xs → at < length ys → (slice_index xs at == slice_index ys at) ≡ true
    → parted (drop (at + 1) xs) (drop (at + 1) ys) ≡ parted (drop at xs) (drop at ys)
unfolding parted
parted_more xs ys at in_xs in_ys same =
    let front : drop at xs ≡ slice_index xs at ∷ drop (at + 1) xs = drop_more xs at 0 in_xs in
    let behind : drop at ys ≡ slice_index ys at ∷ drop (at + 1) ys = drop_more ys at 0 in_ys in
    rw (front, behind) (sym (same_byte (slice_index xs at == slice_index ys at) _ _ same))

-- a byte that differs
parted_here : (xs ys : List ℕ) (at : ℕ) → at < length xs → at < length ys → (slice_index xs at == slice_index ys at) ≡ false
    → parted (drop at xs) (drop at ys) ≡ record { one = drop at xs; other = drop at ys }
unfolding parted
parted_here xs ys at in_xs in_ys differ =
    let front : drop at xs ≡ slice_index xs at ∷ drop (at + 1) xs = drop_more xs at 0 in_xs in
    let behind : drop at ys ≡ slice_index ys at ∷ drop (at + 1) ys = drop_more ys at 0 in_ys in
    rw (front, behind) (other_byte (slice_index xs at == slice_index ys at) _ _ differ)

pub parts_one : (xs ys : List ℕ) (at : ℕ) (whole : Parted) → at < length xs → at < length ys → (slice_index xs at == slice_index ys at) ≡ false
    → parted (drop at xs) (drop at ys) ≡ whole → drop at xs ≡ whole.one
parts_one xs ys at whole in_xs in_ys differ so_far = ap (λ (p : Parted). p.one) (sym (parted_here xs ys at in_xs in_ys differ) ∙ so_far)

pub parts_other : (xs ys : List ℕ) (at : ℕ) (whole : Parted) → at < length xs → at < length ys → (slice_index xs at == slice_index ys at) ≡ false
    → parted (drop at xs) (drop at ys) ≡ whole → drop at ys ≡ whole.other
parts_other xs ys at whole in_xs in_ys differ so_far = ap (λ (p : Parted). p.other) (sym (parted_here xs ys at in_xs in_ys differ) ∙ so_far)

none_one : (ys : List ℕ) → parted [] ys ≡ record { one = []; other = ys }
unfolding parted
none_one [] = refl
none_one (y ∷ ys) = refl

none_other : (xs : List ℕ) → parted xs [] ≡ record { one = xs; other = [] }
unfolding parted
none_other [] = refl
none_other (x ∷ xs) = refl

at_end : (xs ys : List ℕ) (most : ℕ) → most ≡ min (length xs) (length ys) → parted (drop most xs) (drop most ys) ≡ record { one = drop most xs; other = drop most ys }
at_end xs ys most is =
    let short : most ≤ length xs = omega (arith, is) in
    elim (eq-or-lt_of_le short) [
      | inl same ↦ let none : drop most xs ≡ [] = drop_all most xs (omega (arith, same)) in rw none (none_one (drop most ys))
      | inr less ↦ let none : drop most ys ≡ [] = drop_all most ys (omega (arith, is, less)) in rw none (none_other (drop most xs))
    ]

pub ends_one : (xs ys : List ℕ) (at most : ℕ) (whole : Parted) → most ≡ min (length xs) (length ys) → most ≤ at → at ≤ most → parted (drop at xs) (drop at ys) ≡ whole → drop most xs ≡ whole.one
ends_one xs ys at most whole is above below so_far =
    let same : at ≡ most = omega (arith, above, below) in
    ap (λ (p : Parted). p.one) (sym (at_end xs ys most is) ∙ (rw same at so_far))

pub ends_other : (xs ys : List ℕ) (at most : ℕ) (whole : Parted) → most ≡ min (length xs) (length ys) → most ≤ at → at ≤ most → parted (drop at xs) (drop at ys) ≡ whole → drop most ys ≡ whole.other
ends_other xs ys at most whole is above below so_far =
    let same : at ≡ most = omega (arith, above, below) in
    ap (λ (p : Parted). p.other) (sym (at_end xs ys most is) ∙ (rw same at so_far))
