-- Parts of a list of bytes.
use Rattle.std.proofs.Common.{◌≡◌, ℕ, ◌+◌, ◌-◌, ◌≤◌, List, ◌++◌, length, take, drop, refl, sym, ap, ◌∙◌, arith}
use Rattle.std.proofs.lemmas.List.{drop-drop, drop-take, length-take, length-drop, take-take}
use Rattle.std.proofs.Math.Seq.{take-add}
use Rattle.std.specs.Prelude.{slice_range}

-- what is taken after a part
pub part_more : (kept old new : List ℕ) (from len at n : ℕ) → at ≡ from + len → kept ≡ take len (drop from old) → take at new ≡ take at old →
    slice_range new from (at + n) ≡ kept ++ take n (drop at new)
part_more kept old new from len at n at_is kept_is same =
    let size : at + n - from ≡ len + n = omega arith in
    let split : take (len + n) (drop from new) ≡ take len (drop from new) ++ take n (drop len (drop from new)) = take-add len n (drop from new) in
    let whole : take (from + len) new ≡ take (from + len) old = rw (← at_is) same in
    let front : take len (drop from new) ≡ kept =
    sym (drop-take from len new) ∙ (ap (λ xs. drop from xs) whole ∙ (drop-take from len old ∙ sym kept_is)) in
    let rest : drop len (drop from new) ≡ drop at new = rw at_is (drop-drop len from new) in
    rw size (rw (split, front, rest) refl)

-- a part kept as it is
pub part_same : (kept old new : List ℕ) (from len at : ℕ) → at ≡ from + len → kept ≡ take len (drop from old) → take at new ≡ take at old →
    slice_range new from at ≡ kept
part_same kept old new from len at at_is kept_is same =
    let size : at - from ≡ len = omega arith in
    let whole : take (from + len) new ≡ take (from + len) old = rw (← at_is) same in
    rw size (sym (drop-take from len new) ∙ (ap (λ xs. drop from xs) whole ∙ (drop-take from len old ∙ sym kept_is)))

-- less its first bytes
pub part_later : (xs : List ℕ) (from to past : ℕ) → from + past ≤ to → slice_range xs (from + past) to ≡ drop past (slice_range xs from to)
part_later xs from to past within =
    let size : to - from ≡ past + (to - (from + past)) = omega arith in
    rw size (sym (drop-take past (to - (from + past)) (drop from xs) ∙ ap (λ ys. take (to - (from + past)) ys) (drop-drop past from xs)))

-- a part of a part
pub part_within : (xs : List ℕ) (from to first after : ℕ) → first ≤ after → from + after ≤ to →
    slice_range xs (from + first) (from + after) ≡ slice_range (slice_range xs from to) first after
part_within xs from to first after ordered within =
    let size : from + after - (from + first) ≡ after - first = omega arith in
    rw size (
    let whole : to - from ≡ first + (to - from - first) = omega arith in
    let inner : drop first (take (to - from) (drop from xs)) ≡ take (to - from - first) (drop first (drop from xs)) =
    ap (λ n. drop first (take n (drop from xs))) whole ∙ drop-take first (to - from - first) (drop from xs) in
    let both : drop first (drop from xs) ≡ drop (from + first) xs = drop-drop first from xs in
    rw (inner, both) (sym (take-take (after - first) (to - from - first) (drop (from + first) xs) (omega arith))))

-- no part is longer than the whole
pub part_fits : (xs : List ℕ) (from to : ℕ) → length (slice_range xs from to) ≤ length xs
part_fits xs from to = omega (arith, length-take (to - from) (drop from xs), length-drop from xs)

-- a front part
pub part_front : (xs : List ℕ) (n : ℕ) → slice_range xs 0 n ≡ take n xs
part_front xs n = let size : n - 0 ≡ n = omega arith in ap (λ k. take k xs) size
