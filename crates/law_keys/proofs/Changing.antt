-- A table with one of its rows changed.
use Rattle.std.proofs.Common.{◌≡◌, ℕ, zero, suc, ◌+◌, ◌<◌, ◌==◌, ◌&&◌, ◌||◌, not, Bool, true, false, List, [], ◌∷◌, length, get_or, Option, Some, None, ◌⊎◌, inl, inr, refl, sym, ap, ◌∙◌, subst, arith, if◌then◌else◌}
use Rattle.std.proofs.lemmas.Bool.{eq-eqb, ne_eqb, eqb-false}
use Rattle.std.specs.List.{list_any, AllByRecursion, slice_get}
use Rattle.book_segments.proofs.Fields.{eqb_is}
use Rattle.book_keys.specs.Overlaps.{AreApart, IsValid, Overlap, overlaps}
use Rattle.book_keys.specs.Rows.{Row}
use Rattle.book_keys.proofs.OverlapLaws.{overlaps-Overlap, Overlap-overlaps}
use Rattle.book_plans.specs.Ways.{changed_row, first_clash}

pub same_or_not : (a b : ℕ) → (a ≡ b) ⊎ (a ≡ b → ⊥)
same_or_not a b = by_test (a == b) refl
  where
    by_test : (t : Bool) → (a == b) ≡ t → (a ≡ b) ⊎ (a ≡ b → ⊥)
    by_test true e = inl (eqb_is a b e)
    by_test false e = inr (eqb-false a b e)

-- ---- the row that is looked up

pub got_within : (rows : List Row) (i : ℕ) (r : Row) → slice_get rows i ≡ Some r → i < length rows
got_within [] i r e = absurd (cc)
got_within (o ∷ os) zero r e = omega arith
got_within (o ∷ os) (suc i) r e = let more = got_within os i r e in omega arith

pub got_at : (rows : List Row) (i : ℕ) (r d : Row) → slice_get rows i ≡ Some r → get_or rows i d ≡ r
got_at [] i r d e = absurd (cc)
got_at (o ∷ os) zero r d e = cc
got_at (o ∷ os) (suc i) r d e = got_at os i r d e

-- ---- rows of a changed table

pub length_changed : (f : Row → Row) (n k : ℕ) (rows : List Row) → length (changed_row f n k rows) ≡ length rows
length_changed f n k [] = refl
length_changed f n k (r ∷ rs) = ap suc (length_changed f n (k + 1) rs)

changed_at : (f : Row → Row) (n k : ℕ) (rows : List Row) (i : ℕ) (d : Row) → (k + i ≡ n → ⊥) → get_or (changed_row f n k rows) i d ≡ get_or rows i d
changed_at f n k [] i d ne = refl
changed_at f n k (r ∷ rs) zero d ne = rw (ne_eqb k n (λ e. ne (omega arith))) refl
changed_at f n k (r ∷ rs) (suc i) d ne = changed_at f n (k + 1) rs i d (λ e. ne (omega arith))

changed_here : (f : Row → Row) (n k : ℕ) (rows : List Row) (i : ℕ) (d : Row) → k + i ≡ n → i < length rows
    → get_or (changed_row f n k rows) i d ≡ f (get_or rows i d)
changed_here f n k [] i d at lt = absurd (omega arith)
changed_here f n k (r ∷ rs) zero d at lt = rw (eq-eqb k n (omega arith)) refl
changed_here f n k (r ∷ rs) (suc i) d at lt = changed_here f n (k + 1) rs i d (omega arith) (omega arith)

-- ---- overlaps

swapped : (a b : Row) → Overlap a b → Overlap b a
swapped a b (pair, time, inl h) = (pair, time, inl (record { one_id = sym h.one_id; left = h.right; right = h.left }))
swapped a b (pair, time, inr h) = (pair, time, inr (record { one_id = sym h.one_id; left = h.right; right = h.left }))

apart_back : (a b : Row) → overlaps a b ≡ false → overlaps b a ≡ false
apart_back a b h = by_test (overlaps b a) refl
  where
    by_test : (t : Bool) → overlaps b a ≡ t → overlaps b a ≡ false
    by_test true e = let meets = Overlap-overlaps a b (swapped b a (overlaps-Overlap b a e)) in absurd (cc)
    by_test false e = e

none_if : (b : Bool) (x : ℕ) (m : Option ℕ) → (if b then Some x else m) ≡ None → (b ≡ false) × (m ≡ None)
none_if true x m e = absurd (cc)
none_if false x m e = (refl, e)

second_false : (a b : Bool) → a ≡ true → (a && b) ≡ false → b ≡ false
second_false true b e h = h
second_false false b e h = absurd (cc)

not_same : (k n : ℕ) → (k ≡ n → ⊥) → not (k == n) ≡ true
not_same k n ne = rw (ne_eqb k n ne) refl

no_clash : (r : Row) (n k : ℕ) (rows : List Row) → first_clash r n k rows ≡ None
    → (i : ℕ) (d : Row) → i < length rows → (k + i ≡ n → ⊥) → overlaps r (get_or rows i d) ≡ false
no_clash r n k [] e i d lt ne = absurd (omega arith)
no_clash r n k (o ∷ os) e zero d lt ne =
    let h = none_if (not (k == n) && overlaps r o) k (first_clash r n (k + 1) os) e in
    second_false (not (k == n)) (overlaps r o) (not_same k n (λ s. ne (omega arith))) h.0
no_clash r n k (o ∷ os) e (suc i) d lt ne =
    let h = none_if (not (k == n) && overlaps r o) k (first_clash r n (k + 1) os) e in
    no_clash r n (k + 1) os h.1 i d (omega arith) (λ s. ne (omega arith))

apart_changed : (f : Row → Row) (n k at : ℕ) (rows : List Row) (r : Row) → k + at ≡ n → slice_get rows at ≡ Some r → AreApart rows
    → first_clash (f r) n k rows ≡ None → AreApart (changed_row f n k rows)
apart_changed f n k at rows r here got apart clear i j d lt within =
    let new = changed_row f n k rows in
    let long = length_changed f n k rows in
    let inside = got_within rows at r got in
    let is_new : get_or new at d ≡ f r = changed_here f n k rows at d here inside ∙ ap f (got_at rows at r d got) in
    elim (same_or_not i at) [
      | inl e ↦
          let free = no_clash (f r) n k rows clear j d (omega arith) (λ s. omega arith) in
          subst (λ (x : Row). overlaps x (get_or new j d) ≡ false) (sym (ap (λ (t : ℕ). get_or new t d) e ∙ is_new))
          (subst (λ (y : Row). overlaps (f r) y ≡ false) (sym (changed_at f n k rows j d (λ s. omega arith))) free)
      | inr ne ↦ elim (same_or_not j at) [
        | inl e ↦
            let free = apart_back (f r) (get_or rows i d) (no_clash (f r) n k rows clear i d (omega arith) (λ s. ne (omega arith))) in
            subst (λ (y : Row). overlaps (get_or new i d) y ≡ false) (sym (ap (λ (t : ℕ). get_or new t d) e ∙ is_new))
            (subst (λ (x : Row). overlaps x (f r) ≡ false) (sym (changed_at f n k rows i d (λ s. ne (omega arith)))) free)
        | inr other ↦
            subst (λ (x : Row). overlaps x (get_or new j d) ≡ false) (sym (changed_at f n k rows i d (λ s. ne (omega arith))))
            (subst (λ (y : Row). overlaps (get_or rows i d) y ≡ false) (sym (changed_at f n k rows j d (λ s. other (omega arith)))) (apart i j d lt (omega arith)))
      ]
    ]

pub valid_changed : (f : Row → Row) (n k at : ℕ) (rows : List Row) (r : Row) → k + at ≡ n → slice_get rows at ≡ Some r → IsValid rows
    → first_clash (f r) n k rows ≡ None → IsValid (changed_row f n k rows)
valid_changed f n k at rows r here got valid clear =
    let limit = valid.limit in
    let long = length_changed f n k rows in
    record { apart = apart_changed f n k at rows r here got valid.apart clear; limit = omega arith }

-- ---- what some row of a changed table does

-- a test that the change leaves as it is
pub any_same : (p : Row → Bool) (f : Row → Row) → ((r : Row) → p (f r) ≡ p r) → (n k : ℕ) (rows : List Row) → list_any p (changed_row f n k rows) ≡ list_any p rows
any_same p f same n k [] = refl
any_same p f same n k (r ∷ rs) = by_test (k == n) (any_same p f same n (k + 1) rs)
  where
    by_test : (b : Bool) → list_any p (changed_row f n (k + 1) rs) ≡ list_any p rs
        → (p (if b then f r else r) || list_any p (changed_row f n (k + 1) rs)) ≡ (p r || list_any p rs)
    by_test true more = rw (same r, more) refl
    by_test false more = rw more refl

or_left : (a b : Bool) → a ≡ true → (a || b) ≡ true
or_left true b e = refl
or_left false b e = absurd (cc)

or_right : (a b : Bool) → b ≡ true → (a || b) ≡ true
or_right true b e = refl
or_right false b e = e

either : (a b : Bool) → (a || b) ≡ true → (a ≡ true) ⊎ (b ≡ true)
either true b e = inl refl
either false b e = inr e

-- a test that the changed row passes
pub any_here : (p : Row → Bool) (f : Row → Row) (n k at : ℕ) (rows : List Row) (r : Row) → k + at ≡ n → slice_get rows at ≡ Some r
    → p (f r) ≡ true → list_any p (changed_row f n k rows) ≡ true
any_here p f n k at [] r here got passes = absurd (cc)
any_here p f n k zero (o ∷ os) r here got passes =
    let same : o ≡ r = cc in
    rw (eq-eqb k n (omega arith), same) (or_left (p (f r)) (list_any p (changed_row f n (k + 1) os)) passes)
any_here p f n k (suc at) (o ∷ os) r here got passes =
    or_right (p (if k == n then f o else o)) (list_any p (changed_row f n (k + 1) os)) (any_here p f n (k + 1) at os r (omega arith) got passes)

unchanged : (f : Row → Row) (n k : ℕ) (rows : List Row) → n < k → changed_row f n k rows ≡ rows
unchanged f n k [] low = refl
unchanged f n k (r ∷ rs) low = rw (ne_eqb k n (λ e. omega arith), unchanged f n (k + 1) rs (omega arith)) refl

-- a test that the change doesn't fail
pub any_still : (p : Row → Bool) (f : Row → Row) (n k at : ℕ) (rows : List Row) (r : Row) → k + at ≡ n → slice_get rows at ≡ Some r
    → (p r ≡ true → p (f r) ≡ true) → list_any p rows ≡ true → list_any p (changed_row f n k rows) ≡ true
any_still p f n k at [] r here got keeps some = absurd (cc)
any_still p f n k zero (o ∷ os) r here got keeps some =
    let same : o ≡ r = cc in
    rw (eq-eqb k n (omega arith)) (elim (either (p o) (list_any p os) some) [
      | inl e ↦ or_left (p (f o)) (list_any p (changed_row f n (k + 1) os)) (rw same (keeps (rw same at e)))
      | inr e ↦ or_right (p (f o)) (list_any p (changed_row f n (k + 1) os)) (rw (unchanged f n (k + 1) os (omega arith)) e)
    ])
any_still p f n k (suc at) (o ∷ os) r here got keeps some =
    rw (ne_eqb k n (λ e. omega arith)) (elim (either (p o) (list_any p os) some) [
      | inl e ↦ or_left (p o) (list_any p (changed_row f n (k + 1) os)) e
      | inr e ↦ or_right (p o) (list_any p (changed_row f n (k + 1) os)) (any_still p f n (k + 1) at os r (omega arith) got keeps e)
    ])

-- ---- what holds of each row of a changed table

pub all_same : (P : Row → Type 0) (f : Row → Row) → ((r : Row) → P r → P (f r)) → (n k : ℕ) (rows : List Row) → AllByRecursion P rows → AllByRecursion P (changed_row f n k rows)
all_same P f keeps n k [] all = all
all_same P f keeps n k (r ∷ rs) all = (by_test (k == n), all_same P f keeps n (k + 1) rs all.1)
  where
    by_test : (b : Bool) → P (if b then f r else r)
    by_test true = keeps r all.0
    by_test false = all.0

-- what holds of each row but that of number n, and of the changed one
pub all_but : (P : Row → Type 0) (f : Row → Row) (n k : ℕ) (rows : List Row)
    → ((i : ℕ) (r : Row) → slice_get rows i ≡ Some r → (k + i ≡ n → ⊥) → P r)
    → ((i : ℕ) (r : Row) → slice_get rows i ≡ Some r → k + i ≡ n → P (f r))
    → AllByRecursion P (changed_row f n k rows)
all_but P f n k [] others here = tt
all_but P f n k (r ∷ rs) others here = (
  by_test (k == n) refl,
  all_but P f n (k + 1) rs (λ i q got ne. others (suc i) q got (λ e. ne (omega arith))) (λ i q got e. here (suc i) q got (omega arith)),
)
  where
    by_test : (b : Bool) → (k == n) ≡ b → P (if b then f r else r)
    by_test true e = let same = eqb_is k n e in here zero r refl (omega arith)
    by_test false e = let apart = eqb-false k n e in others zero r refl (λ s. apart (omega arith))
