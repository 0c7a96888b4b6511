-- The number of the session between two sockets, once uses change.
use Rattle.std.proofs.Common.{◌≡◌, ℕ, ◌<◌, Bool, true, false, List, [], ◌∷◌, ◌++◌, length, get_or, Option, Some, None, ⊎_elim, refl, ap, ◌∙◌, arith, zero, suc}
use Rattle.std.specs.Prelude.{cond, option_map, slice_set, if◌then◌else◌}
use Rattle.std.specs.List.{find, AllByRecursion}
use Rattle.book_base.specs.declared.address.Socket.{Socket}
use Rattle.book_base.specs.Orders.{sorted_pair}
use Rattle.book_base.proofs.OrderLaws.{sorted_told}
use Rattle.book_sessions.specs.declared.uses.KeyUse.{KeyUse}
use Rattle.capture_listener.specs.Places.{is_between, number_between}
use Rattle.capture_listener.proofs.EndsLaws.{joined_turned}

-- the number that is found, or else that of a use, if it is between the sockets
abbrev pub or_of : Socket → Socket → KeyUse → Option ℕ → Option ℕ
or_of a b u None = if is_between a b u then Some u.session else None
or_of a b u (Some n) = Some n

-- one more use
pub number_push : (a b : Socket) (us : List KeyUse) (u : KeyUse) → number_between a b (us ++ u ∷ []) ≡ or_of a b u (number_between a b us)
number_push a b [] u = at (is_between a b u)
  where
    at : (v : Bool) → option_map (λ (x : KeyUse). x.session) (cond v (Some u) None) ≡ (if v then Some u.session else None)
    at true = refl
    at false = refl
number_push a b (w ∷ us) u = at (is_between a b w) (number_push a b us u)
  where
    at : (v : Bool) → number_between a b (us ++ u ∷ []) ≡ or_of a b u (number_between a b us)
        → option_map (λ (x : KeyUse). x.session) (cond v (Some w) (find (is_between a b) (us ++ u ∷ [])))
        ≡ or_of a b u (option_map (λ (x : KeyUse). x.session) (cond v (Some w) (find (is_between a b) us)))
    at true e = refl
    at false e = e

pub number_turned : (a b : Socket) (us : List KeyUse) → number_between b a us ≡ number_between a b us
number_turned a b [] = refl
number_turned a b (u ∷ us) = at (is_between b a u) (is_between a b u) (joined_turned a b u.source u.destination) (number_turned a b us)
  where
    at : (v w : Bool) → v ≡ w → number_between b a us ≡ number_between a b us
        → option_map (λ (x : KeyUse). x.session) (cond v (Some u) (find (is_between b a) us)) ≡ option_map (λ (x : KeyUse). x.session) (cond w (Some u) (find (is_between a b) us))
    at true true e h = refl
    at false false e h = h
    at true false e h = absurd (cc)
    at false true e h = absurd (cc)

-- sockets with the same ends have the same session
pub number_alike : (a b s t : Socket) (us : List KeyUse) → sorted_pair a b ≡ sorted_pair s t → number_between a b us ≡ number_between s t us
number_alike a b s t us e =
    ⊎_elim
    (λ h. rw (h.0, h.1) refl)
    (λ h. rw (h.0, h.1) (number_turned s t us))
    (sorted_told a b s t e)

-- a use is of the same session between the same sockets
pub record Alike (u v : KeyUse) : Type 0 where
  pub session : v.session ≡ u.session
  pub source : v.source ≡ u.source
  pub destination : v.destination ≡ u.destination

pub between_alike : (a b : Socket) (u v : KeyUse) → Alike u v → is_between a b v ≡ is_between a b u
between_alike a b u v A = rw (A.source, A.destination) refl

found_as : (v : Bool) (u w : KeyUse) (o : Option KeyUse) → w.session ≡ u.session → option_map (λ (x : KeyUse). x.session) (cond v (Some w) o) ≡ option_map (λ (x : KeyUse). x.session) (cond v (Some u) o)
found_as true u w o e = ap Some e
found_as false u w o e = refl

-- a use in the place of one like it
pub number_set : (a b : Socket) (us : List KeyUse) (i : ℕ) (w d : KeyUse) → i < length us → Alike (get_or us i d) w → number_between a b (slice_set us i w) ≡ number_between a b us
number_set a b [] i w d low A = absurd (omega arith)
number_set a b (u ∷ us) zero w d low A =
    ap (λ (v : Bool). option_map (λ (x : KeyUse). x.session) (cond v (Some w) (find (is_between a b) us))) (between_alike a b u w A)
    ∙ found_as (is_between a b u) u w (find (is_between a b) us) A.session
number_set a b (u ∷ us) (suc i) w d low A = at (is_between a b u) (number_set a b us i w d (omega arith) A)
  where
    at : (v : Bool) → number_between a b (slice_set us i w) ≡ number_between a b us
        → option_map (λ (x : KeyUse). x.session) (cond v (Some u) (find (is_between a b) (slice_set us i w))) ≡ option_map (λ (x : KeyUse). x.session) (cond v (Some u) (find (is_between a b) us))
    at true e = refl
    at false e = e

-- ---- what holds of each use

pub all_push : (P : KeyUse → Type 0) (us : List KeyUse) (u : KeyUse) → AllByRecursion P us → P u → AllByRecursion P (us ++ u ∷ [])
all_push P [] u h p = (p, tt)
all_push P (w ∷ us) u h p = (h.0, all_push P us u h.1 p)

pub all_more : (P Q : KeyUse → Type 0) (us : List KeyUse) → ((u : KeyUse) → P u → Q u) → AllByRecursion P us → AllByRecursion Q us
all_more P Q [] f h = tt
all_more P Q (u ∷ us) f h = (f u h.0, all_more P Q us f h.1)

pub all_set : (P : KeyUse → Type 0) (us : List KeyUse) (i : ℕ) (w d : KeyUse) → i < length us → AllByRecursion P us → (P (get_or us i d) → P w) → AllByRecursion P (slice_set us i w)
all_set P [] i w d low h f = absurd (omega arith)
all_set P (u ∷ us) zero w d low h f = (f h.0, h.1)
all_set P (u ∷ us) (suc i) w d low h f = (h.0, all_set P us i w d (omega arith) h.1 f)
