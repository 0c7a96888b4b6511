-- The slices that a time is cut into, and how a test fills a slice. Its tops are `slices_of` and
-- `filling`.
use Rattle.std.specs.Prelude.{◌≡◌, ℕ, zero, suc, ◌+◌, ◌-◌, ◌/◌, ◌≤◌, nat_lt, Bool, true, false}
use Rattle.std.specs.Prelude.{◌&&◌, ◌||◌, List, [], ◌∷◌, if◌then◌else◌}
use Rattle.book_scope_plan.specs.declared.duty.Filling.{Filling}
use Rattle.book_scope_plan.specs.declared.duty.Filling.TheVariants.{Never, Partly, Wholly}
use Rattle.book_scope_plan.specs.declared.slice.Slice.{Slice}

-- into how many slices a time is cut at most (own)
abbrev pub most_slices : ℕ
most_slices = 48

-- how many seconds a slice has, the last one apart: the fewest for which the slices suffice (own)
abbrev pub slice_width : (low high : ℕ) → ℕ
slice_width low high = (high - low) / most_slices + 1

-- the times from one to another (own)
abbrev pub slice_between : (first last : ℕ) → Slice
slice_between first last = record { first = first; last = last }

-- at most so many slices of this width, from a time until so many seconds after it (own)
abbrev pub slices_from : (width count : ℕ) → (time after : ℕ) → List Slice
slices_from width zero time more = []
slices_from width (suc n) time more =
    if nat_lt more width then slice_between time (time + more) ∷ []
    else slice_between time (time + (width - 1)) ∷ slices_from width n (time + width) (more - width)

-- the slices of the times from low to high (own)
abbrev pub slices_of : (low high : ℕ) → List Slice
slices_of low high =
    if nat_lt high low then []
    else slices_from (slice_width low high) most_slices low (high - low)

-- the test passes at each of so many times from this one on (own)
abbrev pub all_pass : (ℕ → Bool) → (time count : ℕ) → Bool
all_pass test time zero = true
all_pass test time (suc n) = test time && all_pass test (time + 1) n

-- the test passes at one of so many times from this one on (own)
abbrev pub any_passes : (ℕ → Bool) → (time count : ℕ) → Bool
any_passes test time zero = false
any_passes test time (suc n) = test time || any_passes test (time + 1) n

-- how many times a slice has (own)
abbrev pub times_in : Slice → ℕ
times_in s = s.last + 1 - s.first

-- a slice is filled by whether something holds at some of its times, and at all (own)
abbrev pub filled_by : (some all : Bool) → Filling
filled_by some all = if some then (if all then Wholly else Partly) else Never

-- how a test fills a slice: at none of its times it passes, at some, or at each (own)
unfoldable pub filling : (ℕ → Bool) → Slice → Filling
filling test s =
    filled_by (any_passes test s.first (times_in s)) (all_pass test s.first (times_in s))

-- the slices follow one another from this time on, each with a time of its own, up to just before
-- the end (own)
abbrev pub AreParts : (time end : ℕ) → List Slice → Type 0
AreParts time end [] = time ≡ end
AreParts time end (s ∷ ss) =
    (s.first ≡ time) × (s.first ≤ s.last) × AreParts (s.last + 1) end ss
