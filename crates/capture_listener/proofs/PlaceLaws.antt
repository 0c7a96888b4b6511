-- The places of a session's uses, once uses change.
use Rattle.std.proofs.Common.{◌≡◌, ℕ, ◌+◌, ◌<◌, Bool, true, false, List, [], ◌∷◌, ◌++◌, length, get_or, Some, refl, sym, ap, arith, zero, suc}
use Rattle.std.proofs.lemmas.Bool.Decides.{nat_tests}
use Rattle.std.specs.Prelude.{cond, nat_lt, slice_set, if◌then◌else◌, filter}
use Rattle.std.specs.List.{slice_get, AllByRecursion}
use Rattle.book_sessions.specs.declared.uses.KeyUse.{KeyUse}
use Rattle.book_sessions.specs.SessionTexts.{is_of_session}
use Rattle.capture_listener.specs.Places.{places_from, places_of, uses_at}
use Rattle.capture_listener.proofs.NumberLaws.{Alike}

-- a place, if the use at it is of the session
abbrev pub if_of : (number place : ℕ) → KeyUse → List ℕ
if_of n i u = if is_of_session n u then i ∷ [] else []

-- one more use
pub places_push : (n i j : ℕ) (us : List KeyUse) (u : KeyUse) → j ≡ i + length us → places_from n i (us ++ u ∷ []) ≡ places_from n i us ++ if_of n j u
places_push n i j [] u e = let is : j ≡ i = omega arith in rw is (at (is_of_session n u))
  where
    at : (v : Bool) → (if v then i ∷ [] else []) ≡ (if v then i ∷ [] else [])
    at v = refl
places_push n i j (w ∷ us) u e = at (is_of_session n w) (places_push n (suc i) j us u (omega arith))
  where
    at : (v : Bool) → places_from n (suc i) (us ++ u ∷ []) ≡ places_from n (suc i) us ++ if_of n j u
        → (if v then i ∷ places_from n (suc i) (us ++ u ∷ []) else places_from n (suc i) (us ++ u ∷ []))
        ≡ (if v then i ∷ places_from n (suc i) us else places_from n (suc i) us) ++ if_of n j u
    at true h = ap (λ (l : List ℕ). i ∷ l) h
    at false h = h

of_alike : (n : ℕ) (u w : KeyUse) → Alike u w → is_of_session n w ≡ is_of_session n u
of_alike n u w A = rw A.session refl

-- a use in the place of one like it
pub places_set : (n j : ℕ) (us : List KeyUse) (i : ℕ) (w d : KeyUse) → i < length us → Alike (get_or us i d) w → places_from n j (slice_set us i w) ≡ places_from n j us
places_set n j [] i w d low A = absurd (omega arith)
places_set n j (u ∷ us) zero w d low A =
    ap (λ (v : Bool). if v then j ∷ places_from n (suc j) us else places_from n (suc j) us) (of_alike n u w A)
places_set n j (u ∷ us) (suc i) w d low A =
    ap (λ (l : List ℕ). if is_of_session n u then j ∷ l else l) (places_set n (suc j) us i w d (omega arith) A)

-- no use is of the session
pub places_none : (n i : ℕ) (us : List KeyUse) → AllByRecursion (λ (u : KeyUse). is_of_session n u ≡ false) us → places_from n i us ≡ []
places_none n i [] h = refl
places_none n i (u ∷ us) h = rw (h.0) (places_none n (suc i) us h.1)

-- ---- what stands at the places

-- these uses stand among all from a place on
abbrev pub StandsAt : List KeyUse → ℕ → List KeyUse → Type 0
StandsAt all i us = (k j : ℕ) → j ≡ i + k → slice_get us k ≡ slice_get all j

pub stands_next : (all us : List KeyUse) (u : KeyUse) (i : ℕ) → StandsAt all i (u ∷ us) → StandsAt all (suc i) us
stands_next all us u i S = λ k j e. S (suc k) j (omega arith)

pub stands_here : (all us : List KeyUse) (u : KeyUse) (i : ℕ) → StandsAt all i (u ∷ us) → slice_get all i ≡ Some u
stands_here all us u i S = sym (S 0 i (omega arith))

pub stands_all : (all : List KeyUse) → StandsAt all 0 all
stands_all all = λ k j e. let is : j ≡ k = omega arith in rw is refl

-- the uses at the places of a session are its uses
picked_from : (n i : ℕ) (all us : List KeyUse) → StandsAt all i us → uses_at all (places_from n i us) ≡ filter (is_of_session n) us
picked_from n i all [] S = refl
picked_from n i all (u ∷ us) S = at (is_of_session n u) (picked_from n (suc i) all us (stands_next all us u i S))
  where
    at : (v : Bool) → uses_at all (places_from n (suc i) us) ≡ filter (is_of_session n) us
        → uses_at all (if v then i ∷ places_from n (suc i) us else places_from n (suc i) us) ≡ cond v (u ∷ filter (is_of_session n) us) (filter (is_of_session n) us)
    at true h = rw (stands_here all us u i S) (ap (λ (l : List KeyUse). u ∷ l) h)
    at false h = h

pub picked : (n : ℕ) (uses : List KeyUse) → uses_at uses (places_of n uses) ≡ filter (is_of_session n) uses
picked n uses = picked_from n 0 uses uses (stands_all uses)

-- what is read at a place
pub get_here : {A : Type 0} (xs : List A) (i : ℕ) (x : A) → i < length xs → x ≡ get_or xs i x → slice_get xs i ≡ Some x
get_here [] i x low e = absurd (omega arith)
get_here (y ∷ ys) zero x low e = ap Some (sym e)
get_here (y ∷ ys) (suc i) x low e = get_here ys i x (omega arith) e

pub get_low : {A : Type 0} (xs : List A) (i : ℕ) (x : A) → slice_get xs i ≡ Some x → i < length xs
get_low [] i x e = absurd (cc)
get_low (y ∷ ys) zero x e = omega arith
get_low (y ∷ ys) (suc i) x e = let low = get_low ys i x e in omega arith

pub low_told : (i n : ℕ) → true ≡ nat_lt i n → i < n
low_told i n e = grind (arith, nat_tests)
