-- How a lifetime fills a slice, by its first and its last time.
use Rattle.std.proofs.Common.{◌≡◌, ℕ, ◌+◌, ◌-◌, ◌<◌, ◌≤◌, max, min, Bool, true, false, ◌&&◌, inl, inr, refl, arith, nat_le}
use Rattle.std.proofs.lemmas.Bool.Decides.{nat_tests}
use Rattle.std.proofs.lemmas.Bool.{cases_lt}
use Rattle.book_base.specs.declared.address.Pair.{Pair}
use Rattle.book_keys.specs.declared.lifetime.Lifetime.{Lifetime}
use Rattle.book_keys.specs.Lifetimes.{contains}
use Rattle.book_keys.specs.Rows.{Row, matches, receives, sends}
use Rattle.book_scope_plan.specs.declared.duty.Duty.TheVariants.{Accepts, Sends}
use Rattle.book_scope_plan.specs.declared.duty.Filling.TheVariants.{Never}
use Rattle.book_scope_plan.specs.declared.slice.Slice.{Slice}
use Rattle.book_scope_plan.specs.BarOrders.{row_filling}
use Rattle.book_scope_plan.specs.Slices.{all_pass, filled_by, filling}
use Rattle.book_scope_plan.proofs.FillingLaws.{all_true, any_false, not_all, not_none, never_exactly}
use Rattle.draw_plan.specs.Lifetimes.{covers, overlaps}

inside : (l : Lifetime) (t : ℕ) → l.first ≤ t → t ≤ l.last → contains l t ≡ true
inside l t a b = let low : nat_le l.first t ≡ true = grind (arith, nat_tests) in let high : nat_le t l.last ≡ true = grind (arith, nat_tests) in rw (low, high) refl

early : (l : Lifetime) (t : ℕ) → t < l.first → contains l t ≡ false
early l t a = let low : nat_le l.first t ≡ false = grind (arith, nat_tests) in rw low refl

late : (l : Lifetime) (t : ℕ) → l.last < t → contains l t ≡ false
late l t a = by_test (nat_le l.first t) (let high : nat_le t l.last ≡ false = grind (arith, nat_tests) in high)
  where
    by_test : (b : Bool) → nat_le t l.last ≡ false → (b && nat_le t l.last) ≡ false
    by_test true high = high
    by_test false high = refl

le_holds : (a b : ℕ) → nat_le a b ≡ true → a ≤ b
le_holds a b h = grind (arith, nat_tests)

le_fails : (a b : ℕ) → nat_le a b ≡ false → b < a
le_fails a b h = grind (arith, nat_tests)

apart : (l : Lifetime) (s : Slice) (t : ℕ) → min l.last s.last < max l.first s.first → s.first ≤ t → t ≤ s.last → contains l t ≡ false
apart l s t gap low high = elim (cases_lt t l.first) [
  | inl lt ↦ early l t lt
  | inr ge ↦ late l t (omega arith)
]

-- as far as one of them reaches past the other
reaching : (l : Lifetime) (s : Slice) → s.first ≤ s.last → (b c : Bool) → nat_le l.first s.first ≡ b → nat_le s.last l.last ≡ c
    → all_pass (contains l) s.first (s.last + 1 - s.first) ≡ (b && c)
reaching l s order true true p q =
    let low = le_holds l.first s.first p in
    let high = le_holds s.last l.last q in
    all_true (contains l) s.first (s.last + 1 - s.first) (λ t a b. inside l t (omega arith) (omega arith))
reaching l s order false c p q =
    not_all (contains l) s.first (s.last + 1 - s.first) s.first (omega arith) (omega arith) (early l s.first (le_fails l.first s.first p))
reaching l s order true false p q =
    not_all (contains l) s.first (s.last + 1 - s.first) s.last (omega arith) (omega arith) (late l s.last (le_fails s.last l.last q))

lifetime_by : (l : Lifetime) (s : Slice) (b : Bool) → overlaps l s ≡ b → filling (contains l) s ≡ filled_by b (covers l s)
unfolding filling
lifetime_by l s true is =
    let common = le_holds (max l.first s.first) (min l.last s.last) is in
    let n = s.last + 1 - s.first in
    rw (
      not_none (contains l) s.first n (max l.first s.first) (omega arith) (omega arith) (inside l (max l.first s.first) (omega arith) (omega arith)),
      reaching l s (omega arith) (nat_le l.first s.first) (nat_le s.last l.last) refl refl,
    ) refl
lifetime_by l s false is =
    let none = le_fails (max l.first s.first) (min l.last s.last) is in
    rw (any_false (contains l) s.first (s.last + 1 - s.first) (λ t a b. apart l s t (omega arith) a (omega arith))) refl

lifetime_fills : (l : Lifetime) (s : Slice) → filling (contains l) s ≡ filled_by (overlaps l s) (covers l s)
lifetime_fills l s = lifetime_by l s (overlaps l s) refl

blank : (s : Slice) → filling (λ t. false) s ≡ Never
blank s = (never_exactly (λ t. false) s).1 (λ t low high. refl)

-- where a row is for this at all
row_by : (m d : Bool) (l : Lifetime) (s : Slice)
    → filling (λ t. m && (d && contains l t)) s ≡ filled_by (m && (d && overlaps l s)) (covers l s)
row_by true true l s = lifetime_fills l s
row_by true false l s = blank s
row_by false d l s = blank s

-- how a row fills a slice
pub accepting_fills : (pair : Pair) (r : Row) (s : Slice)
    → row_filling pair Accepts r s ≡ filled_by (matches r pair && (receives r.direction && overlaps r.accepting s)) (covers r.accepting s)
accepting_fills pair r s = row_by (matches r pair) (receives r.direction) r.accepting s

pub sending_fills : (pair : Pair) (r : Row) (s : Slice)
    → row_filling pair Sends r s ≡ filled_by (matches r pair && (sends r.direction && overlaps r.sending s)) (covers r.sending s)
sending_fills pair r s = row_by (matches r pair) (sends r.direction) r.sending s
