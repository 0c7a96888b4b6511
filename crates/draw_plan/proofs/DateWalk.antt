-- One date more.
use Rattle.std.proofs.Common.{◌≡◌, ℕ, zero, suc, ◌+◌, ◌-◌, ◌<◌, ◌≤◌, min, nat_le, true, false, List, [], ◌++◌, refl, sym, ap, ◌∙◌, arith, append_assoc}
use Rattle.std.proofs.lemmas.Bool.Decides.{nat_tests}
use Rattle.std.proofs.lemmas.List.{append-nil}
use Rattle.book_scope_plan.specs.declared.slice.Slice.{Slice}
use Rattle.page_draw_plan_svg.specs.declared.unit.DateUnit.{DateUnit}
use Rattle.page_draw_plan_svg.specs.Dates.{unit_step}
use Rattle.page_draw_plan_svg.specs.PlanPictures.{dates_svg, time_svg}
use Rattle.book_keys.specs.Lifetimes.{greatest_time}

module _ (line : ℕ) (time : Slice) (unit : DateUnit) where
  abbrev dates : ℕ → ℕ → List ℕ
  dates n t = dates_svg line time unit n t

  past : (n t : ℕ) → min time.last greatest_time < t → dates n t ≡ []
  past zero t h = refl
  past (suc n) t h = let is : nat_le t (min time.last greatest_time) ≡ false = grind (arith, nat_tests) in rw is refl

  within : (n t : ℕ) → t ≤ min time.last greatest_time → dates (suc n) t ≡ time_svg line time unit t ++ dates n (t + unit_step unit)
  within n t h = let is : nat_le t (min time.last greatest_time) ≡ true = grind (arith, nat_tests) in rw is refl

  -- the time is over
  pub no_date : (out whole : List ℕ) (n t : ℕ) → min time.last greatest_time < t → out ++ dates n t ≡ whole → out ≡ whole
  no_date out whole n t h so_far = sym (append-nil out) ∙ (rw (past n t h) at so_far)

  -- the steps are
  pub no_step : (out whole : List ℕ) (count done t : ℕ) → count ≤ done → out ++ dates (count - done) t ≡ whole → out ≡ whole
  no_step out whole count done t end so_far = let none : count - done ≡ 0 = omega arith in sym (append-nil out) ∙ (rw none at so_far)

  -- one of several
  pub one_step : (out new whole : List ℕ) (count done t : ℕ) → done < count → t ≤ min time.last greatest_time
      → new ≡ out ++ time_svg line time unit t → out ++ dates (count - done) t ≡ whole → new ++ dates (count - (done + 1)) (t + unit_step unit) ≡ whole
  one_step out new whole count done t low h is so_far =
      let left : count - done ≡ suc (count - (done + 1)) = omega arith in
      let rest = dates (count - (done + 1)) (t + unit_step unit) in
      ap (λ (x : List ℕ). x ++ rest) is
      ∙ append_assoc out (time_svg line time unit t) rest
      ∙ ap (λ (x : List ℕ). out ++ x) (sym (within (count - (done + 1)) t h)) ∙ (rw left at so_far)
