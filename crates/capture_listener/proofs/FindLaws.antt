-- A segment is counted at its place among the uses of its session.
use Rattle.std.proofs.Common.{◌≡◌, ℕ, ◌+◌, ◌<◌, Bool, true, false, List, [], ◌∷◌, ◌++◌, length, get_or, Option, Some, None, refl, ap, ◌∙◌, arith, suc}
use Rattle.std.specs.Prelude.{◌&&◌, cond, slice_set, if◌then◌else◌}
use Rattle.std.specs.List.{slice_get, AllByRecursion}
use Rattle.book_segments.specs.Sockets.{same_socket}
use Rattle.book_segments.proofs.Fields.{and_tells}
use Rattle.book_segments.proofs.SocketLaws.{same_socket_is}
use Rattle.book_sessions.specs.declared.uses.KeyUse.{KeyUse}
use Rattle.book_sessions.specs.declared.uses.SeenSegment.{SeenSegment}
use Rattle.book_sessions.specs.declared.uses.Signs.{Signs}
use Rattle.book_sessions.specs.Sessions.{carries_ids_of, first_use, greater_of, goes_as, is_flow_of, is_use_of, isns_of, knows_both, passed_as, reached_before, same_flow, same_outcome, used_again, with_use}
use Rattle.book_sessions.specs.SessionTexts.{is_of_session}
use Rattle.capture_listener.specs.Places.{is_use_found, place_among, places_from, reached_among}
use Rattle.capture_listener.proofs.PlaceLaws.{StandsAt, stands_here, stands_next}

module _ (s : SeenSegment) where
  -- the place of the first use that a segment is one of
  abbrev pub place_in : ℕ → List KeyUse → Option ℕ
  place_in i [] = None
  place_in i (u ∷ us) = cond (is_use_of s u) (Some i) (place_in (suc i) us)

  -- a segment is only one of uses of this session
  abbrev pub IsOnlyOf : ℕ → KeyUse → Type 0
  IsOnlyOf n u = is_use_of s u ≡ true → is_of_session n u ≡ true

  pub among_from : (n i : ℕ) (all us : List KeyUse) → StandsAt all i us → AllByRecursion (IsOnlyOf n) us → place_among s all (places_from n i us) ≡ place_in i us
  among_from n i all [] S h = refl
  among_from n i all (u ∷ us) S h = at (is_of_session n u) (is_use_of s u) refl refl (among_from n (suc i) all us (stands_next all us u i S) h.1)
    where
      here : is_use_found s (slice_get all i) ≡ is_use_of s u
      here = ap (is_use_found s) (stands_here all us u i S)

      at : (v w : Bool) → is_of_session n u ≡ v → is_use_of s u ≡ w → place_among s all (places_from n (suc i) us) ≡ place_in (suc i) us
          → place_among s all (if v then i ∷ places_from n (suc i) us else places_from n (suc i) us) ≡ cond w (Some i) (place_in (suc i) us)
      at true true e f g = ap (λ (x : Bool). cond x (Some i) (place_among s all (places_from n (suc i) us))) (here ∙ f)
      at true false e f g = ap (λ (x : Bool). cond x (Some i) (place_among s all (places_from n (suc i) us))) (here ∙ f) ∙ g
      at false true e f g = let is = h.0 f in absurd (cc)
      at false false e f g = g

  -- a segment is one of no use: another one is its first
  pub use_new : (g : Signs) (n i : ℕ) (us : List KeyUse) → place_in i us ≡ None → with_use n g s us ≡ us ++ first_use n g s ∷ []
  use_new g n i [] e = refl
  use_new g n i (u ∷ us) e = at (is_use_of s u) (use_new g n (suc i) us) e
    where
      at : (v : Bool) → (place_in (suc i) us ≡ None → with_use n g s us ≡ us ++ first_use n g s ∷ []) → cond v (Some i) (place_in (suc i) us) ≡ None
          → (if v then used_again g s u ∷ us else u ∷ with_use n g s us) ≡ u ∷ (us ++ first_use n g s ∷ [])
      at true next e = absurd (cc)
      at false next e = ap (λ (l : List KeyUse). u ∷ l) (next e)

  pub none_in : (i : ℕ) (us : List KeyUse) → AllByRecursion (λ (u : KeyUse). is_use_of s u ≡ false) us → place_in i us ≡ None
  none_in i [] h = refl
  none_in i (u ∷ us) h = rw (h.0) (none_in (suc i) us h.1)

  -- one more of the use at a place
  pub record FoundAt (g : Signs) (n i place : ℕ) (us : List KeyUse) : Type 0 where
    pub k : ℕ
    pub is : place ≡ i + k
    pub low : k < length us
    pub set : (d : KeyUse) → slice_set us k (used_again g s (get_or us k d)) ≡ with_use n g s us

  pub use_found : (g : Signs) (n i place : ℕ) (us : List KeyUse) → place_in i us ≡ Some place → FoundAt g n i place us
  use_found g n i place [] e = absurd (cc)
  use_found g n i place (u ∷ us) e = at (is_use_of s u) refl (use_found g n (suc i) place us) e
    where
      at : (v : Bool) → is_use_of s u ≡ v → (place_in (suc i) us ≡ Some place → FoundAt g n (suc i) place us) → cond v (Some i) (place_in (suc i) us) ≡ Some place → FoundAt g n i place (u ∷ us)
      at true f next e = let is : i ≡ place = cc in record { k = 0; is = omega arith; low = omega arith; set = λ d. rw f refl }
      at false f next e =
          let F = next e in
          let is = F.is in
          let low = F.low in
          record {
            k = suc F.k;
            is = omega arith;
            low = omega arith;
            set = λ d. rw f (ap (λ (l : List KeyUse). u ∷ l) (F.set d));
          }

  -- a segment goes between the sockets of what goes its way
  pub way_between : (u : KeyUse) → goes_as s u ≡ true → (s.source ≡ u.source) × (s.destination ≡ u.destination)
  way_between u e =
      let sockets = and_tells (same_socket s.source u.source) (same_socket s.destination u.destination) e in
      (same_socket_is s.source u.source sockets.0, same_socket_is s.destination u.destination sockets.1)

  -- and of what it is one of
  pub use_between : (u : KeyUse) → is_use_of s u ≡ true → (s.source ≡ u.source) × (s.destination ≡ u.destination)
  use_between u e = way_between u (and_tells (goes_as s u) (carries_ids_of s u && (same_outcome s.outcome u.outcome && passed_as s u)) e).0

  -- and of what passed in its connection
  pub flow_between : (u : KeyUse) → is_flow_of s u ≡ true → (s.source ≡ u.source) × (s.destination ≡ u.destination)
  flow_between u e = way_between u (and_tells (goes_as s u) (knows_both (isns_of s) && same_flow (isns_of s) u.isns) e).0

  -- ---- how far a connection came

  -- only uses of this session passed in the segment's connection
  abbrev pub IsOnlyFlow : ℕ → KeyUse → Type 0
  IsOnlyFlow n u = is_flow_of s u ≡ true → is_of_session n u ≡ true

  pub reached_from : (n i : ℕ) (all us : List KeyUse) → StandsAt all i us → AllByRecursion (IsOnlyFlow n) us → reached_among s all (places_from n i us) ≡ reached_before s us
  reached_from n i all [] S h = refl
  reached_from n i all (u ∷ us) S h = at (is_of_session n u) (is_flow_of s u) refl refl (reached_from n (suc i) all us (stands_next all us u i S) h.1)
    where
      at : (v w : Bool) → is_of_session n u ≡ v → is_flow_of s u ≡ w → reached_among s all (places_from n (suc i) us) ≡ reached_before s us
          → reached_among s all (if v then i ∷ places_from n (suc i) us else places_from n (suc i) us) ≡ (if w then Some (greater_of u.reached (reached_before s us)) else reached_before s us)
      at true true e f g = rw (stands_here all us u i S, f, g) refl
      at true false e f g = rw (stands_here all us u i S, f, g) refl
      at false true e f g = let is = h.0 f in absurd (cc)
      at false false e f g = g

  -- none passed in it
  pub unreached : (us : List KeyUse) → AllByRecursion (λ (u : KeyUse). is_flow_of s u ≡ false) us → reached_before s us ≡ None
  unreached [] h = refl
  unreached (u ∷ us) h = rw (h.0) (unreached us h.1)
