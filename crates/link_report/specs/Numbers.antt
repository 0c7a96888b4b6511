-- Where the entries with a number stand.
use Rattle.std.specs.Prelude.{◌≡◌, ◌≢◌, ℕ, zero, suc, ◌<◌, ◌≤◌, nat_eq, List, length, slice_get, Option, Some, None}
use Rattle.std.specs.HashMap.{get, HashMap}
use Rattle.link_report.specs.declared.kept.Kept.{Kept}

-- the places up to this one, none for none
abbrev pub past : Option ℕ → ℕ
past None = zero
past (Some i) = suc i

-- the last of the first n entries with a number, if there is one
pub record IsLast (kept : List Kept) (number n : ℕ) (place : Option ℕ) : Type 0 where
  pub within : past place ≤ n
  pub here : (i : ℕ) (k : Kept) → place ≡ Some i → slice_get kept i ≡ Some k → k.entry.number ≡ number
  pub later : (j : ℕ) (k : Kept) → past place ≤ j → j < n → slice_get kept j ≡ Some k → k.entry.number ≢ number

module _ {S : Type 0} where
  -- the last entry with each number is known, and of each entry the last one before it with its number
  pub record AreLinked (kept : List Kept) (latest : HashMap ℕ ℕ S) : Type 0 where
    pub last : (number : ℕ) → IsLast kept number (length kept) (get nat_eq latest number)
    pub earlier : (i : ℕ) (k : Kept) → slice_get kept i ≡ Some k → IsLast kept k.entry.number i k.earlier
