-- How a map from pairs to values lies in its two lists. No public clause cites this file.
use Rattle.std.specs.Prelude.{◌≡◌, ℕ, suc, ◌≤◌, Bool, false, List, [], ◌∷◌, length, if◌then◌else◌}
use Rattle.std.specs.List.{AllByRecursion}
use Rattle.std.specs.List.Sorted.{IsStrictlySortedBy}
use Rattle.std.specs.Ordering.{is_gt}
use Rattle.std.specs.BTreeMap.{is_at}
use Rattle.book_base.specs.declared.address.Pair.{Pair}
use Rattle.book_base.specs.Orders.{by_pair}

-- the place of the first pair that passes, from 0; their number where none does (own)
abbrev pub place_of : (Pair → Bool) → List Pair → ℕ
place_of test [] = 0
place_of test (q ∷ qs) = if test q then 0 else suc (place_of test qs)

-- how many pairs stand in front of where this one would stand (own)
abbrev pub gap_of : Pair → List Pair → ℕ
gap_of p [] = 0
gap_of p (q ∷ qs) = if is_gt (by_pair p q) then suc (gap_of p qs) else 0

-- the pair isn't among these (own)
abbrev pub IsAbsent : Pair → List Pair → Type 0
IsAbsent p qs = AllByRecursion (λ q. is_at (by_pair p) q ≡ false) qs

-- the pairs are in order, each has a value, and there is memory for as many as may be (own)
pub record Lies {V : Type 0} (most first second : ℕ) (pairs : List Pair) (values : List V) : Type 0
  where
    pub sorted : IsStrictlySortedBy by_pair pairs
    pub same : length values ≡ length pairs
    pub room : length pairs ≤ most
    pub first_room : most ≤ first
    pub second_room : most ≤ second
