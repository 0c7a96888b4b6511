-- One slice more.
use Rattle.std.proofs.Common.{◌≡◌, ℕ, suc, ◌+◌, ◌-◌, ◌<◌, ◌≤◌, nat_lt, true, false, List, [], ◌∷◌, ◌++◌, refl, sym, ap, ◌∙◌, arith, append_assoc}
use Rattle.std.proofs.lemmas.Bool.Decides.{nat_tests}
use Rattle.std.proofs.lemmas.List.{append-nil}
use Rattle.book_scope_plan.specs.declared.slice.Slice.{Slice}
use Rattle.book_scope_plan.specs.Slices.{slice_between, slices_from}

short : (width n time more : ℕ) → more < width → slices_from width (suc n) time more ≡ slice_between time (time + more) ∷ []
short width n time more h = let is : nat_lt more width ≡ true = grind (arith, nat_tests) in rw is refl

long : (width n time more : ℕ) → width ≤ more
    → slices_from width (suc n) time more ≡ slice_between time (time + (width - 1)) ∷ slices_from width n (time + width) (more - width)
long width n time more h = let is : nat_lt more width ≡ false = grind (arith, nat_tests) in rw is refl

-- the last one
pub last_slice : (out new whole : List Slice) (width done time more : ℕ) → done < 48 → more < width
    → new ≡ out ++ slice_between time (time + more) ∷ [] → out ++ slices_from width (48 - done) time more ≡ whole → new ≡ whole
last_slice out new whole width done time more within h is so_far =
    let left : 48 - done ≡ suc (48 - (done + 1)) = omega arith in
    is ∙ ap (λ (x : List Slice). out ++ x) (sym (short width (48 - (done + 1)) time more h)) ∙ (rw left at so_far)

-- one of several
pub one_slice : (out new whole : List Slice) (width done time more : ℕ) → done < 48 → width ≤ more
    → new ≡ out ++ slice_between time (time + (width - 1)) ∷ [] → out ++ slices_from width (48 - done) time more ≡ whole
    → new ++ slices_from width (48 - (done + 1)) (time + width) (more - width) ≡ whole
one_slice out new whole width done time more within h is so_far =
    let left : 48 - done ≡ suc (48 - (done + 1)) = omega arith in
    let rest = slices_from width (48 - (done + 1)) (time + width) (more - width) in
    ap (λ (x : List Slice). x ++ rest) is
    ∙ append_assoc out (slice_between time (time + (width - 1)) ∷ []) rest
    ∙ ap (λ (x : List Slice). out ++ x) (sym (long width (48 - (done + 1)) time more h)) ∙ (rw left at so_far)

-- so many that none is left
pub no_slice : (out whole : List Slice) (width done time more : ℕ) → 48 ≤ done → out ++ slices_from width (48 - done) time more ≡ whole → out ≡ whole
no_slice out whole width done time more end so_far =
    let none : 48 - done ≡ 0 = omega arith in
    sym (append-nil out) ∙ (rw none at so_far)
