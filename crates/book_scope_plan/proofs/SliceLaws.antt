-- Slices follow one another.
use Rattle.std.proofs.Common.{◌≡◌, ℕ, zero, suc, ◌+◌, ◌-◌, ◌*◌, ◌/◌, ◌<◌, ◌≤◌, nat_lt, Bool, true, false, [], ◌∷◌, length, refl, arith, if◌then◌else◌}
use Rattle.std.proofs.lemmas.Bool.Decides.{nat_tests}
use Rattle.std.proofs.Math.Nat.{suc-mul}
use Rattle.book_scope_plan.specs.Slices.{AreParts, most_slices, slice_width, slices_from, slices_of, slice_between}

lt_fails : (a b : ℕ) → nat_lt a b ≡ false → b ≤ a
lt_fails a b h = grind (arith, nat_tests)

-- the slices of this time, where it has another or not
parts_by : (width n time more end : ℕ) (b : Bool) → nat_lt more width ≡ b → 0 < width → more < n * width + width → end ≡ time + more + 1
    → (width ≤ more → more - width < n * width → AreParts (time + width) end (slices_from width n (time + width) (more - width)))
    → AreParts time end (if b then slice_between time (time + more) ∷ [] else slice_between time (time + (width - 1)) ∷ slices_from width n (time + width) (more - width))
parts_by width n time more end true is some enough same rest = (refl, omega arith, omega arith)
parts_by width n time more end false is some enough same rest =
    let low = lt_fails more width is in
    let next : time + (width - 1) + 1 ≡ time + width = omega arith in
    (refl, omega arith, rw next (rest low (omega arith)))

parts_from : (width n time more end : ℕ) → 0 < width → more < n * width → end ≡ time + more + 1 → AreParts time end (slices_from width n time more)
parts_from width zero time more end some enough same = absurd (omega arith)
parts_from width (suc n) time more end some enough same =
    parts_by width n time more end (nat_lt more width) refl some (rw (suc-mul n width) at enough) same
    (λ low fewer. parts_from width n (time + width) (more - width) end some fewer (omega arith))

few_by : (width n time more : ℕ) (b : Bool) → length (slices_from width n (time + width) (more - width)) ≤ n
    → length (if b then slice_between time (time + more) ∷ [] else slice_between time (time + (width - 1)) ∷ slices_from width n (time + width) (more - width)) ≤ suc n
few_by width n time more true few = omega arith
few_by width n time more false few = omega arith

few_from : (width n time more : ℕ) → length (slices_from width n time more) ≤ n
few_from width zero time more = omega arith
few_from width (suc n) time more = few_by width n time more (nat_lt more width) (few_from width n (time + width) (more - width))

-- all of a time is within its slices
reaches : (more : ℕ) → more < 48 * (more / 48 + 1)
reaches more = omega arith

pub are_parts : (low high : ℕ) → low ≤ high → AreParts low (high + 1) (slices_of low high)
are_parts low high order =
    let after : nat_lt high low ≡ false = grind (arith, nat_tests) in
    rw after (parts_from (slice_width low high) 48 low (high - low) (high + 1) (omega arith) (reaches (high - low)) (omega arith))

few_either : (low high : ℕ) (b : Bool) → length (if b then [] else slices_from (slice_width low high) 48 low (high - low)) ≤ 48
few_either low high true = omega arith
few_either low high false = few_from (slice_width low high) 48 low (high - low)

pub few_slices : (low high : ℕ) → length (slices_of low high) ≤ most_slices
few_slices low high = few_either low high (nat_lt high low)

pub no_slices : (low high : ℕ) → high < low → slices_of low high ≡ []
no_slices low high order = let after : nat_lt high low ≡ true = grind (arith, nat_tests) in rw after refl
