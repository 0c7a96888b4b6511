-- Where the entries with a number stand.
use Rattle.std.proofs.Common.{◌≡◌, ◌≢◌, ◌⊎◌, inl, inr, ℕ, zero, suc, ◌+◌, ◌<◌, ◌≤◌, nat_eq, cond, Bool, true, false, List, [], ◌∷◌, ◌++◌, length, slice_get, Option, Some, refl, sym, ap, ◌∙◌, subst, arith, length-append}
use Rattle.std.proofs.lemmas.Bool.{cases_lt}
use Rattle.std.proofs.lemmas.Bool.Decides.{nat_tests}
use Rattle.std.specs.HashMap.{get, HashMap, Updates}
use Rattle.book_segments.proofs.Fields.{eqb_is, some_is}
use Rattle.link_report.specs.declared.kept.Kept.{Kept}
use Rattle.link_report.specs.Numbers.{past, IsLast, AreLinked}

-- ---- lists

pub get_within : (xs : List Kept) (i : ℕ) (k : Kept) → slice_get xs i ≡ Some k → i < length xs
get_within [] i k h = absurd (cc)
get_within (x ∷ xs) zero k h = omega arith
get_within (x ∷ xs) (suc i) k h = let r = get_within xs i k h in omega arith

-- what stands at a place before the last one
get_front : (xs : List Kept) (x k : Kept) (i : ℕ) → i < length xs → slice_get (xs ++ x ∷ []) i ≡ Some k → slice_get xs i ≡ Some k
get_front [] x k i within h = absurd (omega arith)
get_front (y ∷ xs) x k zero within h = h
get_front (y ∷ xs) x k (suc i) within h = get_front xs x k i (omega arith) h

get_last : (xs : List Kept) (x k : Kept) → slice_get (xs ++ x ∷ []) (length xs) ≡ Some k → k ≡ x
get_last [] x k h = cc
get_last (y ∷ xs) x k h = get_last xs x k h

-- ---- one more entry

-- a place before the new entry stays the last one
still_last : (kept : List Kept) (x : Kept) (number n : ℕ) (place : Option ℕ) → n ≤ length kept → IsLast kept number n place → IsLast (kept ++ x ∷ []) number n place
still_last kept x number n place few h =
    record {
      within = h.within;
      here = λ i k is at.
          let e : past place ≡ suc i = ap past is in
          let w = h.within in h.here i k is (get_front kept x k i (omega (arith, e, w, few)) at);
      later = λ j k from below at. h.later j k from below (get_front kept x k j (omega (arith, below, few)) at);
    }

-- the new entry is the last one with its number
new_last : (kept : List Kept) (x : Kept) → IsLast (kept ++ x ∷ []) x.entry.number (length kept + 1) (Some (length kept))
new_last kept x =
    record {
      within = omega arith;
      here = λ i k is at.
          let e : length kept ≡ i = cc in
          ap (λ (y : Kept). y.entry.number) (get_last kept x k (subst (λ n. slice_get (kept ++ x ∷ []) n ≡ Some k) (sym e) at));
      later = λ j k from below at. absurd (omega (arith, from, below));
    }

rest_not : (kept : List Kept) (x k : Kept) (number j : ℕ) (place : Option ℕ) → x.entry.number ≢ number → IsLast kept number (length kept) place → past place ≤ j
    → j < length kept + 1 → slice_get (kept ++ x ∷ []) j ≡ Some k → (j < length kept) ⊎ (length kept ≤ j) → k.entry.number ≢ number
rest_not kept x k number j place ne h from below at (inl before) = h.later j k from before (get_front kept x k j before at)
rest_not kept x k number j place ne h from below at (inr after) =
    let e : length kept ≡ j = omega (arith, below, after) in
    let same = get_last kept x k (subst (λ n. slice_get (kept ++ x ∷ []) n ≡ Some k) (sym e) at) in
    subst (λ (y : Kept). y.entry.number ≢ number) (sym same) ne

-- of the other numbers the last entry stays
other_last : (kept : List Kept) (x : Kept) (number : ℕ) (place : Option ℕ) → x.entry.number ≢ number → IsLast kept number (length kept) place
    → IsLast (kept ++ x ∷ []) number (length kept + 1) place
other_last kept x number place ne h =
    record {
      within = let w = h.within in omega (arith, w);
      here = (still_last kept x number (length kept) place (omega arith) h).here;
      later = λ j k from below at. rest_not kept x k number j place ne h from below at (cases_lt j (length kept));
    }

last_by : (kept : List Kept) (x : Kept) (number : ℕ) (old : Option ℕ) (b : Bool) → nat_eq x.entry.number number ≡ b → IsLast kept number (length kept) old
    → IsLast (kept ++ x ∷ []) number (length kept + 1) (cond b (Some (length kept)) old)
last_by kept x number old true e h =
    let same : x.entry.number ≡ number = eqb_is x.entry.number number e in
    subst (λ n. IsLast (kept ++ x ∷ []) n (length kept + 1) (Some (length kept))) same (new_last kept x)
last_by kept x number old false e h = other_last kept x number old (λ same. absurd (grind (arith, nat_tests, same, e))) h

earlier_by : (kept : List Kept) (x k : Kept) (i : ℕ) → ((j : ℕ) (y : Kept) → slice_get kept j ≡ Some y → IsLast kept y.entry.number j y.earlier)
    → IsLast kept x.entry.number (length kept) x.earlier → slice_get (kept ++ x ∷ []) i ≡ Some k → (i < length kept) ⊎ (length kept ≤ i)
    → IsLast (kept ++ x ∷ []) k.entry.number i k.earlier
earlier_by kept x k i h own at (inl before) =
    still_last kept x k.entry.number i k.earlier (omega (arith, before)) (h i k (get_front kept x k i before at))
earlier_by kept x k i h own at (inr after) =
    let w = get_within (kept ++ x ∷ []) i k at in
    let size = length-append kept (x ∷ []) in
    let e : length kept ≡ i = omega (arith, w, size, after) in
    let same = get_last kept x k (subst (λ n. slice_get (kept ++ x ∷ []) n ≡ Some k) (sym e) at) in
    let here : IsLast (kept ++ x ∷ []) x.entry.number (length kept) x.earlier = still_last kept x x.entry.number (length kept) x.earlier (omega arith) own in
    subst (λ n. IsLast (kept ++ x ∷ []) k.entry.number n k.earlier) e
    (subst (λ (y : Kept). IsLast (kept ++ x ∷ []) y.entry.number (length kept) y.earlier) (sym same) here)

module _ {S : Type 0} where
  -- with a new entry, of which the last one with its number is known, they are linked again
  pub linked_more : (kept : List Kept) (x : Kept) (before after : HashMap ℕ ℕ S) → AreLinked kept before → x.earlier ≡ get nat_eq before x.entry.number
      → Updates nat_eq before after x.entry.number (Some (length kept)) → AreLinked (kept ++ x ∷ []) after
  linked_more kept x before after h earlier updates =
      let size : length (kept ++ x ∷ []) ≡ length kept + 1 = length-append kept (x ∷ []) in
      let own : IsLast kept x.entry.number (length kept) x.earlier = subst (IsLast kept x.entry.number (length kept)) (sym earlier) (h.last x.entry.number) in
      record {
        last = λ number.
            subst (λ n. IsLast (kept ++ x ∷ []) number n (get nat_eq after number)) (sym size)
            (subst (IsLast (kept ++ x ∷ []) number (length kept + 1)) (sym (updates.0 number))
            (last_by kept x number (get nat_eq before number) (nat_eq x.entry.number number) refl (h.last number)));
        earlier = λ i k at. earlier_by kept x k i h.earlier own at (cases_lt i (length kept));
      }

  -- a map in another order says the same
  pub linked_again : (kept : List Kept) (before after : HashMap ℕ ℕ S) → AreLinked kept before → ((number : ℕ) → get nat_eq after number ≡ get nat_eq before number)
      → AreLinked kept after
  linked_again kept before after h same =
      record { last = λ number. subst (IsLast kept number (length kept)) (sym (same number)) (h.last number); earlier = h.earlier }

-- ---- a search among the entries with a number, from the last one on

-- all entries from behind this place on are rejected, and the one at it has the number
pub record Search (P : Kept → Type 0) (kept : List Kept) (number : ℕ) (next : Option ℕ) : Type 0 where
  pub within : past next ≤ length kept
  pub here : (i : ℕ) (k : Kept) → next ≡ Some i → slice_get kept i ≡ Some k → k.entry.number ≡ number
  pub tried : (j : ℕ) (k : Kept) → past next ≤ j → slice_get kept j ≡ Some k → P k

-- it begins at the last entry
pub search_begins : (P : Kept → Type 0) (kept : List Kept) (number : ℕ) (next : Option ℕ) → ((k : Kept) → k.entry.number ≢ number → P k)
    → IsLast kept number (length kept) next → Search P kept number next
search_begins P kept number next others h =
    record { within = h.within; here = h.here; tried = λ j k from at. others k (h.later j k from (get_within kept j k at) at) }

tried_more : (P : Kept → Type 0) (kept : List Kept) (number i j : ℕ) (x k : Kept) → ((y : Kept) → y.entry.number ≢ number → P y)
    → ((n : ℕ) (y : Kept) → suc i ≤ n → slice_get kept n ≡ Some y → P y) → slice_get kept i ≡ Some x → P x → IsLast kept number i x.earlier
    → past x.earlier ≤ j → slice_get kept j ≡ Some k → (j < i) ⊎ (i ≤ j) → (j < suc i) ⊎ (suc i ≤ j) → P k
tried_more P kept number i j x k others tried here untrue last from at (inl before) c = others k (last.later j k from before at)
tried_more P kept number i j x k others tried here untrue last from at (inr after) (inl close) =
    let e : i ≡ j = omega (arith, after, close) in
    let there : slice_get kept i ≡ Some k = subst (λ n. slice_get kept n ≡ Some k) (sym e) at in
    let same : x ≡ k = some_is x k (sym here ∙ there) in
    subst P same untrue
tried_more P kept number i j x k others tried here untrue last from at (inr after) (inr far) = tried j k far at

-- it goes on with the last entry before that one
pub search_goes_on : (P : Kept → Type 0) (kept : List Kept) (number i : ℕ) (next : Option ℕ) (x : Kept) → ((k : Kept) → k.entry.number ≢ number → P k)
    → Search P kept number next → next ≡ Some i → slice_get kept i ≡ Some x → P x → IsLast kept x.entry.number i x.earlier
    → Search P kept number x.earlier × (past x.earlier < past next)
search_goes_on P kept number i next x others h is here untrue before =
    let same : x.entry.number ≡ number = h.here i x is here in
    let last : IsLast kept number i x.earlier = subst (λ n. IsLast kept n i x.earlier) same before in
    let place : past next ≡ suc i = ap past is in
    let w = last.within in
    let inside = get_within kept i x here in
    let tried : (n : ℕ) (y : Kept) → suc i ≤ n → slice_get kept n ≡ Some y → P y = λ n y from at. h.tried n y (omega (arith, place, from)) at in (
      record {
        within = omega (arith, w, inside);
        here = last.here;
        tried = λ j k from at. tried_more P kept number i j x k others tried here untrue last from at (cases_lt j i) (cases_lt j (suc i));
      },
      omega (arith, place, w),
    )
