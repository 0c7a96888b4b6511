-- How a test fills a slice, by the times that pass.
use Rattle.std.proofs.Common.{◌≡◌, ◌↔◌, ℕ, zero, suc, ◌+◌, ◌-◌, ◌<◌, ◌≤◌, Bool, true, false, ◌&&◌, ◌||◌, ◌⊎◌, inl, inr, refl, subst, arith}
use Rattle.std.proofs.lemmas.Bool.{cases_lt}
use Rattle.book_base.specs.declared.address.Pair.{Pair}
use Rattle.book_keys.specs.Rows.{Row}
use Rattle.book_scope_plan.specs.declared.slice.Slice.{Slice}
use Rattle.book_scope_plan.specs.declared.duty.Duty.{Duty}
use Rattle.book_scope_plan.specs.declared.duty.Filling.TheVariants.{Never, Wholly}
use Rattle.book_scope_plan.specs.BarOrders.{is_doing, row_filling}
use Rattle.book_scope_plan.specs.Slices.{all_pass, any_passes, filled_by, filling}

-- ---- times that pass

-- the test has this value at each of so many times
abbrev Each : (ℕ → Bool) → Bool → ℕ → ℕ → Type 0
Each test value time n = (t : ℕ) → time ≤ t → t < time + n → test t ≡ value

here_or_later : (time t : ℕ) → time ≤ t → (time ≡ t) ⊎ (time + 1 ≤ t)
here_or_later time t h = elim (cases_lt time t) [ inl lt ↦ inr (omega arith) | inr ge ↦ inl (omega arith) ]

each_next : (test : ℕ → Bool) (value : Bool) (time n : ℕ) → Each test value time (suc n) → Each test value (time + 1) n
each_next test value time n each t low high = each t (omega arith) (omega arith)

each_first : (test : ℕ → Bool) (value : Bool) (time n : ℕ) → Each test value time (suc n) → test time ≡ value
each_first test value time n each = each time (omega arith) (omega arith)

each_from : (test : ℕ → Bool) (value : Bool) (time n : ℕ) → test time ≡ value → Each test value (time + 1) n → Each test value time (suc n)
each_from test value time n here more t low high = elim (here_or_later time t low) [
  | inl e ↦ subst (λ (u : ℕ). test u ≡ value) e here
  | inr e ↦ more t e (omega arith)
]

pub all_true : (test : ℕ → Bool) (time n : ℕ) → Each test true time n → all_pass test time n ≡ true
all_true test time zero each = refl
all_true test time (suc n) each = rw (each_first test true time n each) (all_true test (time + 1) n (each_next test true time n each))

pub any_false : (test : ℕ → Bool) (time n : ℕ) → Each test false time n → any_passes test time n ≡ false
any_false test time zero each = refl
any_false test time (suc n) each = rw (each_first test false time n each) (any_false test (time + 1) n (each_next test false time n each))

all_by : (test : ℕ → Bool) (time n : ℕ) (b : Bool) → test time ≡ b → (all_pass test (time + 1) n ≡ true → Each test true (time + 1) n)
    → (b && all_pass test (time + 1) n) ≡ true → Each test true time (suc n)
all_by test time n true is rest h = each_from test true time n is (rest h)
all_by test time n false is rest h = absurd (cc)

true_all : (test : ℕ → Bool) (time n : ℕ) → all_pass test time n ≡ true → Each test true time n
true_all test time zero all = λ t low high. absurd (omega arith)
true_all test time (suc n) all = all_by test time n (test time) refl (true_all test (time + 1) n) all

any_by : (test : ℕ → Bool) (time n : ℕ) (b : Bool) → test time ≡ b → (any_passes test (time + 1) n ≡ false → Each test false (time + 1) n)
    → (b || any_passes test (time + 1) n) ≡ false → Each test false time (suc n)
any_by test time n false is rest h = each_from test false time n is (rest h)
any_by test time n true is rest h = absurd (cc)

false_any : (test : ℕ → Bool) (time n : ℕ) → any_passes test time n ≡ false → Each test false time n
false_any test time zero none = λ t low high. absurd (omega arith)
false_any test time (suc n) none = any_by test time n (test time) refl (false_any test (time + 1) n) none

-- a time at which the test has the other value
pub not_all : (test : ℕ → Bool) (time n t : ℕ) → time ≤ t → t < time + n → test t ≡ false → all_pass test time n ≡ false
not_all test time n t low high fails = by_test (all_pass test time n) refl
  where
    by_test : (b : Bool) → all_pass test time n ≡ b → b ≡ false
    by_test false is = refl
    by_test true is = let passes = true_all test time n is t low high in absurd (cc)

pub not_none : (test : ℕ → Bool) (time n t : ℕ) → time ≤ t → t < time + n → test t ≡ true → any_passes test time n ≡ true
not_none test time n t low high passes = by_test (any_passes test time n) refl
  where
    by_test : (b : Bool) → any_passes test time n ≡ b → b ≡ true
    by_test true is = refl
    by_test false is = let fails = false_any test time n is t low high in absurd (cc)

-- ---- how a test fills a slice

filled_wholly : (some all : Bool) → filled_by some all ≡ Wholly → all ≡ true
filled_wholly true true h = refl
filled_wholly true false h = absurd (cc)
filled_wholly false all h = absurd (cc)

filled_never : (some all : Bool) → filled_by some all ≡ Never → some ≡ false
filled_never false all h = refl
filled_never true true h = absurd (cc)
filled_never true false h = absurd (cc)

pub wholly_exactly : (test : ℕ → Bool) (s : Slice) → s.first ≤ s.last
    → (filling test s ≡ Wholly) ↔ ((t : ℕ) → s.first ≤ t → t ≤ s.last → test t ≡ true)
unfolding filling
wholly_exactly test s order =
    let n = s.last + 1 - s.first in (
      λ h t low high. true_all test s.first n (filled_wholly (any_passes test s.first n) (all_pass test s.first n) h) t low (omega arith),
      λ each. rw (
        not_none test s.first n s.first (omega arith) (omega arith) (each s.first (omega arith) order),
        all_true test s.first n (λ t low high. each t low (omega arith)),
      ) refl,
    )

pub never_exactly : (test : ℕ → Bool) (s : Slice)
    → (filling test s ≡ Never) ↔ ((t : ℕ) → s.first ≤ t → t ≤ s.last → test t ≡ false)
unfolding filling
never_exactly test s =
    let n = s.last + 1 - s.first in (
      λ h t low high. false_any test s.first n (filled_never (any_passes test s.first n) (all_pass test s.first n) h) t low (omega arith),
      λ none. rw (any_false test s.first n (λ t low high. none t low (omega arith))) refl,
    )

pub row_wholly : (pair : Pair) (duty : Duty) (r : Row) (s : Slice) → s.first ≤ s.last
    → (row_filling pair duty r s ≡ Wholly) ↔ ((t : ℕ) → s.first ≤ t → t ≤ s.last → is_doing pair duty r t ≡ true)
row_wholly pair duty r s order = wholly_exactly (is_doing pair duty r) s order

pub row_never : (pair : Pair) (duty : Duty) (r : Row) (s : Slice)
    → (row_filling pair duty r s ≡ Never) ↔ ((t : ℕ) → s.first ≤ t → t ≤ s.last → is_doing pair duty r t ≡ false)
row_never pair duty r s = never_exactly (is_doing pair duty r) s
