-- Rows whose columns fit, along a list.
use Rattle.std.proofs.Common.{ℕ, zero, suc, List, [], ◌∷◌, ◌++◌}
use Rattle.std.specs.List.{AllByRecursion}
use Rattle.std.specs.Prelude.{slice_set}

module _ {A : Type 0} (P : A → Type 0) where
  -- one more
  pub one_more : (xs : List A) (x : A) → AllByRecursion P xs → P x → AllByRecursion P (xs ++ x ∷ [])
  one_more [] x all is = (is, tt)
  one_more (y ∷ ys) x all is = (all.0, one_more ys x all.1 is)

  -- another in one's place
  pub one_set : (xs : List A) (k : ℕ) (x : A) → AllByRecursion P xs → P x → AllByRecursion P (slice_set xs k x)
  one_set [] k x all is = tt
  one_set (y ∷ ys) zero x all is = (is, all.1)
  one_set (y ∷ ys) (suc k) x all is = (all.0, one_set ys k x all.1 is)
