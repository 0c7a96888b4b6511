-- A row that is added, or withdrawn, leaves a table valid.
use Rattle.std.proofs.Common.{◌≡◌, ℕ, zero, suc, ◌+◌, ◌<◌, Bool, true, false, ◌&&◌, ◌||◌, List, [], ◌∷◌, ◌++◌, length, get_or, Option, Some, None, cond, ◌⊎◌, inl, inr, refl, sym, ap, subst, arith, nat_lt, nat_le, if◌then◌else◌}
use Rattle.std.specs.List.{position_from, AllByRecursion}
use Rattle.std.proofs.lemmas.Bool.Decides.{nat_tests}
use Rattle.std.proofs.lemmas.List.Quantifiers.{all_pairs_push}
use Rattle.std.proofs.lemmas.List.{length-append}
use Rattle.book_keys.specs.Rows.{Row, row_limit, receives, sends}
use Rattle.book_keys.specs.Overlaps.{overlaps, AreApart, IsValid}
use Rattle.book_keys.specs.Tables.{AddedAs, TooMany, added_unless, adding, disabled, without_row, withdrawn}

first_fails : (b : Bool) (n : ℕ) (o : Option ℕ) → cond b (Some n) o ≡ None → (b ≡ false) × (o ≡ None)
first_fails true n o e = absurd (cc)
first_fails false n o e = (refl, e)

none_before : (t : Row → Bool) (n : ℕ) (rows : List Row) → position_from t n rows ≡ None → (k : ℕ) (d : Row) → k < length rows → t (get_or rows k d) ≡ false
none_before t n [] e k d h = absurd (omega arith)
none_before t n (x ∷ xs) e zero d h = (first_fails (t x) n (position_from t (n + 1) xs) e).0
none_before t n (x ∷ xs) e (suc k) d h = none_before t (n + 1) xs (first_fails (t x) n (position_from t (n + 1) xs) e).1 k d (omega arith)

added_is : (a b : List Row) (n m : ℕ) → AddedAs n a ≡ AddedAs m b → a ≡ b
added_is a b n m e = cc

unless_is : (o : Option ℕ) (rows : List Row) (r : Row) (n : ℕ) (new : List Row) → added_unless o rows r ≡ AddedAs n new → (o ≡ None) × (new ≡ rows ++ r ∷ [])
unless_is None rows r n new e = (refl, sym (added_is (rows ++ r ∷ []) new (length rows + 1) n e))
unless_is (Some k) rows r n new e = absurd (cc)

adding_is : (b : Bool) (rows : List Row) (r : Row) (n : ℕ) (new : List Row) (o : Option ℕ) → (if b then TooMany else added_unless o rows r) ≡ AddedAs n new
    → (o ≡ None) × (new ≡ rows ++ r ∷ []) × (b ≡ false)
adding_is true rows r n new o e = absurd (cc)
adding_is false rows r n new o e = let u = unless_is o rows r n new e in (u.0, u.1, refl)

-- what an added row leaves
pub added_rows : (rows : List Row) (r : Row) (n : ℕ) (new : List Row) → adding rows r ≡ AddedAs n new
    → (position_from (λ a. overlaps a r) 1 rows ≡ None) × (new ≡ rows ++ r ∷ []) × (nat_le row_limit (length rows) ≡ false)
unfolding adding
added_rows rows r n new e = adding_is (nat_le row_limit (length rows)) rows r n new (position_from (λ a. overlaps a r) 1 rows) e

not_full : (n m : ℕ) → nat_le n m ≡ false → m < n
not_full n m e = grind (arith, nat_tests)

pushed : (rows : List Row) (r : Row) → length rows < row_limit → position_from (λ a. overlaps a r) 1 rows ≡ None → IsValid rows → IsValid (rows ++ r ∷ [])
pushed rows r low none h = record {
  apart = all_pairs_push (λ a b. overlaps a b ≡ false) rows r h.apart (λ k d low. none_before (λ a. overlaps a r) 1 rows none k d low);
  limit = simp length-append (omega arith);
}

pub valid_added : (rows : List Row) (r : Row) (n : ℕ) (new : List Row) → adding rows r ≡ AddedAs n new → IsValid rows → IsValid new
valid_added rows r n new e h =
    let a = added_rows rows r n new e in
    subst IsValid (sym a.1) (pushed rows r (not_full row_limit (length rows) a.2) a.0 h)

-- a Disabled row overlaps none
left_disabled : (a b : Row) → overlaps (disabled a) b ≡ false
unfolding overlaps
left_disabled a b = refl

neither : (p q u v w : Bool) → ((((p && false) && u) || ((q && false) && v)) && w) ≡ false
neither true true u v w = refl
neither true false u v w = refl
neither false true u v w = refl
neither false false u v w = refl

right_disabled : (a b : Row) → overlaps a (disabled b) ≡ false
unfolding overlaps
right_disabled a b = neither (receives a.direction) (sends a.direction) _ _ _

at_without : (rows : List Row) (n k : ℕ) (d : Row) → (get_or (without_row rows n) k d ≡ get_or rows k d) ⊎ ((x : Row) × (get_or (without_row rows n) k d ≡ disabled x))
at_without [] n k d = inl refl
at_without (r ∷ rs) zero zero d = inr (r, refl)
at_without (r ∷ rs) zero (suc k) d = inl refl
at_without (r ∷ rs) (suc n) zero d = inl refl
at_without (r ∷ rs) (suc n) (suc k) d = at_without rs n k d

pub length-without : (rows : List Row) (n : ℕ) → length (without_row rows n) ≡ length rows
length-without [] n = refl
length-without (r ∷ rs) zero = refl
length-without (r ∷ rs) (suc n) = ap suc (length-without rs n)

apart_without : (rows : List Row) (n : ℕ) → AreApart rows → AreApart (without_row rows n)
apart_without rows n h i j d lt within =
    let new = without_row rows n in
    let long = length-without rows n in
    elim (at_without rows n i d) [
      | inl e ↦ elim (at_without rows n j d) [
        | inl f ↦ subst (λ (x : Row). overlaps x (get_or new j d) ≡ false) (sym e) (subst (λ (y : Row). overlaps (get_or rows i d) y ≡ false) (sym f) (h i j d lt (omega arith)))
        | inr f ↦ subst (λ (y : Row). overlaps (get_or new i d) y ≡ false) (sym f.1) (right_disabled (get_or new i d) f.0)
      ]
      | inr e ↦ subst (λ (x : Row). overlaps x (get_or new j d) ≡ false) (sym e.1) (left_disabled e.0 (get_or new j d))
    ]

valid_without : (rows : List Row) (n : ℕ) → IsValid rows → IsValid (without_row rows n)
valid_without rows n h = let low = h.limit in record { apart = apart_without rows n h.apart; limit = omega (arith, length-without rows n) }

some_rows : (a b : List Row) → Some a ≡ Some b → a ≡ b
some_rows a b e = cc

withdrawn_if : (rows : List Row) (k : ℕ) (new : List Row) (b : Bool) → (if b then Some (without_row rows k) else None) ≡ Some new → new ≡ without_row rows k
withdrawn_if rows k new true e = sym (some_rows (without_row rows k) new e)
withdrawn_if rows k new false e = absurd (cc)

-- what a withdrawal leaves
pub withdrawn_rows : (rows : List Row) (n : ℕ) (new : List Row) → withdrawn rows n ≡ Some new → (k : ℕ) × (new ≡ without_row rows k)
unfolding withdrawn
withdrawn_rows rows zero new e = absurd (cc)
withdrawn_rows rows (suc k) new e = (k, withdrawn_if rows k new (nat_lt k (length rows)) e)

pub valid_withdrawn : (rows : List Row) (n : ℕ) (new : List Row) → withdrawn rows n ≡ Some new → IsValid rows → IsValid new
valid_withdrawn rows n new e h = let w = withdrawn_rows rows n new e in subst IsValid (sym w.1) (valid_without rows w.0 h)

pub all_push : (P : Row → Type 0) (rows : List Row) (r : Row) → AllByRecursion P rows → P r → AllByRecursion P (rows ++ r ∷ [])
all_push P [] r h p = (p, tt)
all_push P (x ∷ rows) r h p = (h.0, all_push P rows r h.1 p)

pub all_without : (P : Row → Type 0) (rows : List Row) (n : ℕ) → ((r : Row) → P r → P (disabled r)) → AllByRecursion P rows → AllByRecursion P (without_row rows n)
all_without P [] n more h = h
all_without P (r ∷ rows) zero more h = (more r h.0, h.1)
all_without P (r ∷ rows) (suc n) more h = (h.0, all_without P rows n more h.1)

pub all_added : (P : Row → Type 0) (rows : List Row) (r : Row) (n : ℕ) (new : List Row) → adding rows r ≡ AddedAs n new → AllByRecursion P rows → P r → AllByRecursion P new
all_added P rows r n new e h p = subst (λ (l : List Row). AllByRecursion P l) (sym (added_rows rows r n new e).1) (all_push P rows r h p)

pub all_withdrawn : (P : Row → Type 0) (rows : List Row) (n : ℕ) (new : List Row) → withdrawn rows n ≡ Some new → ((r : Row) → P r → P (disabled r)) → AllByRecursion P rows → AllByRecursion P new
all_withdrawn P rows n new e more h = let w = withdrawn_rows rows n new e in subst (λ (l : List Row). AllByRecursion P l) (sym w.1) (all_without P rows w.0 more h)
