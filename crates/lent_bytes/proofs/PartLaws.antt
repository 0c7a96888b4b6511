-- What stands where after a part was written.
use Rattle.std.proofs.Common.{◌≡◌, ℕ, ◌-◌, ◌≤◌, List, ◌++◌, length, take, drop, sym, ap, ◌∙◌, arith, length-take, length-drop}
use Rattle.std.specs.Prelude.{slice_range}
use Rattle.std.specs.List.{refill, length_refill}
use Rattle.std.proofs.lemmas.List.{take_at, take-append-le, take-take, length-append}
use Rattle.lent_bytes.specs.Part.{with_part}

pub refill_is : (n : ℕ) (xs w : List ℕ) → length w ≡ n → refill n xs w ≡ w
refill_is n xs w e = take_at w (drop (length w) xs) n e

-- as many bytes as were lent are put in as they are
pub with_part_is : (xs : List ℕ) (from to : ℕ) (w : List ℕ) → length w ≡ to - from → with_part xs from to w ≡ take from xs ++ (w ++ drop to xs)
with_part_is xs from to w e = ap (λ (l : List ℕ). take from xs ++ (l ++ drop to xs)) (refill_is (to - from) (slice_range xs from to) w e)

part_long : (xs : List ℕ) (from to : ℕ) → from ≤ to → to ≤ length xs → length (slice_range xs from to) ≡ to - from
part_long xs from to h k = omega (arith, length-take (to - from) (drop from xs), length-drop from xs)

-- the length stays, whatever was written
pub length-with_part : (xs : List ℕ) (from to : ℕ) (w : List ℕ) → from ≤ to → to ≤ length xs → length (with_part xs from to w) ≡ length xs
length-with_part xs from to w h k =
    let part : List ℕ = slice_range xs from to in
    let back : List ℕ = drop to xs in
    let r : List ℕ = refill (to - from) part w in
    omega (arith, length-append (take from xs) (r ++ back), length-append r back, length_refill (to - from) part w (sym (part_long xs from to h k)), length-take from xs, length-drop to xs)

-- what is in front stays
pub take-with_part : (xs : List ℕ) (from to : ℕ) (w : List ℕ) (n : ℕ) → n ≤ from → from ≤ length xs → take n (with_part xs from to w) ≡ take n xs
take-with_part xs from to w n h k =
    let back : List ℕ = refill (to - from) (slice_range xs from to) w ++ drop to xs in
    take-append-le n (take from xs) back (omega (arith, length-take from xs)) ∙ take-take n from xs h
