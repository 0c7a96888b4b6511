-- What is told of a use by those of its own session is what is told of it by all.
use Rattle.std.proofs.Common.{◌≡◌, ℕ, ◌&&◌, ◌||◌, ◌==◌, nat_lt, Bool, true, false, List, [], ◌∷◌, Option, Some, None, refl, sym, ap, ◌∙◌, arith, if◌then◌else◌}
use Rattle.std.specs.Prelude.{cond, filter, option_map}
use Rattle.std.specs.List.{find, AllByRecursion}
use Rattle.std.proofs.lemmas.Bool.Decides.{nat_tests}
use Rattle.book_base.specs.declared.address.Socket.{Socket}
use Rattle.book_segments.specs.Sockets.{same_socket}
use Rattle.book_segments.proofs.Fields.{and_tells}
use Rattle.book_segments.proofs.SocketLaws.{same_socket_is}
use Rattle.book_sessions.specs.declared.retiring.Ending.{Ending}
use Rattle.book_sessions.specs.declared.retiring.Wanting.{Wanting}
use Rattle.book_sessions.specs.declared.uses.KeyUse.{KeyUse}
use Rattle.book_sessions.specs.Retiring.{and_ending, and_wanting, ending_by, goes_from, if_both, is_elsewhere, is_followed, is_onward, is_other_side, is_return, is_this_side, wanting_by}
use Rattle.book_sessions.specs.SessionTexts.{is_of_session}
use Rattle.capture_listener.specs.Places.{is_between, number_between}
use Rattle.capture_listener.specs.Known.{HaveSessions}

-- ---- the two sockets, either first

swapped : (p q r s : Bool) → ((p && q) || (r && s)) ≡ ((s && r) || (q && p))
swapped true true true true = refl
swapped true true true false = refl
swapped true true false true = refl
swapped true true false false = refl
swapped true false true true = refl
swapped true false true false = refl
swapped true false false true = refl
swapped true false false false = refl
swapped false true true true = refl
swapped false true true false = refl
swapped false true false true = refl
swapped false true false false = refl
swapped false false true true = refl
swapped false false true false = refl
swapped false false false true = refl
swapped false false false false = refl

between_either : (a b : Socket) (u : KeyUse) → is_between a b u ≡ is_between b a u
between_either a b u = swapped (same_socket a u.source) (same_socket b u.destination) (same_socket a u.destination) (same_socket b u.source)

found_either : (a b : Socket) (us : List KeyUse) → find (is_between a b) us ≡ find (is_between b a) us
found_either a b [] = refl
found_either a b (u ∷ us) = rw (between_either a b u, found_either a b us) refl

pub number_either : (a b : Socket) (uses : List KeyUse) → number_between a b uses ≡ number_between b a uses
number_either a b uses = ap (λ (o : Option KeyUse). option_map (λ (u : KeyUse). u.session) o) (found_either a b uses)

-- ---- of another session

-- a use of another session than that between two sockets doesn't go between them
module _ (uses : List KeyUse) (a b : Socket) (n : ℕ) (known : number_between a b uses ≡ Some n) where
  same_number : (v : KeyUse) → number_between v.source v.destination uses ≡ Some v.session → v.source ≡ a → v.destination ≡ b → is_of_session n v ≡ true
  same_number v h s d =
      let same : number_between a b uses ≡ Some v.session = rw (← s, ← d) h in
      let number : v.session ≡ n = cc in
      rw number (own_number n)
    where
      own_number : (m : ℕ) → (m == m) ≡ true
      own_number m = grind (arith, nat_tests)

  not_from : (v : KeyUse) → number_between v.source v.destination uses ≡ Some v.session → is_of_session n v ≡ false → goes_from a b v ≡ false
  not_from v h e = at (goes_from a b v) refl
    where
      at : (x : Bool) → goes_from a b v ≡ x → x ≡ false
      at false f = refl
      at true f =
          let both = and_tells (same_socket v.source a) (same_socket v.destination b) f in
          let own = same_number v h (same_socket_is v.source a both.0) (same_socket_is v.destination b both.1) in
          absurd (cc)

  -- what goes one way
  pub own_wanting : (wants : KeyUse → Bool) (us : List KeyUse) → HaveSessions uses us → wanting_by wants a b (filter (is_of_session n) us) ≡ wanting_by wants a b us
  own_wanting wants [] h = refl
  own_wanting wants (v ∷ us) h = at (is_of_session n v) refl (own_wanting wants us h.1)
    where
      with : Wanting → Wanting
      with w = if goes_from a b v then and_wanting (wants v) v w else w

      at : (x : Bool) → is_of_session n v ≡ x → wanting_by wants a b (filter (is_of_session n) us) ≡ wanting_by wants a b us
          → wanting_by wants a b (cond x (v ∷ filter (is_of_session n) us) (filter (is_of_session n) us)) ≡ wanting_by wants a b (v ∷ us)
      at true e m = ap with m
      at false e m = rw (not_from v h.0 e) m

module _ (uses : List KeyUse) (u : KeyUse) (known : number_between u.source u.destination uses ≡ Some u.session) where
  not_onward : (v : KeyUse) → number_between v.source v.destination uses ≡ Some v.session → is_of_session u.session v ≡ false → is_onward u v ≡ false
  not_onward v h e = at (is_onward u v) refl
    where
      at : (x : Bool) → is_onward u v ≡ x → x ≡ false
      at false f = refl
      at true f =
          let both = and_tells (same_socket u.source v.source && same_socket u.destination v.destination) (if_both is_this_side u.isns v.isns) f in
          let ends = and_tells (same_socket u.source v.source) (same_socket u.destination v.destination) both.0 in
          let own = same_number uses u.source u.destination u.session known v h (sym (same_socket_is u.source v.source ends.0)) (sym (same_socket_is u.destination v.destination ends.1)) in
          absurd (cc)

  not_return : (v : KeyUse) → number_between v.source v.destination uses ≡ Some v.session → is_of_session u.session v ≡ false → is_return u v ≡ false
  not_return v h e = at (is_return u v) refl
    where
      at : (x : Bool) → is_return u v ≡ x → x ≡ false
      at false f = refl
      at true f =
          let both = and_tells (same_socket u.source v.destination && same_socket u.destination v.source) (if_both is_other_side u.isns v.isns) f in
          let ends = and_tells (same_socket u.source v.destination) (same_socket u.destination v.source) both.0 in
          let there = number_either u.destination u.source uses ∙ known in
          let own = same_number uses u.destination u.source u.session there v h (sym (same_socket_is u.destination v.source ends.1)) (sym (same_socket_is u.source v.destination ends.0)) in
          absurd (cc)

  -- how its connection ends
  pub own_ending : (us : List KeyUse) → HaveSessions uses us → ending_by u (filter (is_of_session u.session) us) ≡ ending_by u us
  own_ending [] h = refl
  own_ending (v ∷ us) h = at (is_of_session u.session v) refl (own_ending us h.1)
    where
      at : (x : Bool) → is_of_session u.session v ≡ x → ending_by u (filter (is_of_session u.session) us) ≡ ending_by u us
          → ending_by u (cond x (v ∷ filter (is_of_session u.session) us) (filter (is_of_session u.session) us)) ≡ ending_by u (v ∷ us)
      at true e m = ap (and_ending u v) m
      at false e m = rw (not_onward v h.0 e, not_return v h.0 e) m

  not_elsewhere : (v : KeyUse) → number_between v.source v.destination uses ≡ Some v.session → is_of_session u.session v ≡ false → is_elsewhere u v ≡ false
  not_elsewhere v h e =
      let there = number_either u.destination u.source uses ∙ known in
      rw (not_from uses u.source u.destination u.session known v h e, not_from uses u.destination u.source u.session there v h e) refl

  -- whether another connection followed
  pub own_followed : (us : List KeyUse) → HaveSessions uses us → is_followed (filter (is_of_session u.session) us) u ≡ is_followed us u
  own_followed [] h = refl
  own_followed (v ∷ us) h = at (is_of_session u.session v) refl (own_followed us h.1)
    where
      at : (x : Bool) → is_of_session u.session v ≡ x → is_followed (filter (is_of_session u.session) us) u ≡ is_followed us u
          → is_followed (cond x (v ∷ filter (is_of_session u.session) us) (filter (is_of_session u.session) us)) u ≡ is_followed (v ∷ us) u
      at true e m = ap (λ (b : Bool). (is_elsewhere u v && nat_lt u.moved v.packet) || b) m
      at false e m = rw (not_elsewhere v h.0 e) m

-- ---- those that pass a test

pub filter_keeps : (P : KeyUse → Bool) (uses us : List KeyUse) → HaveSessions uses us → HaveSessions uses (filter P us)
filter_keeps P uses [] h = tt
filter_keeps P uses (u ∷ us) h = at (P u) (filter_keeps P uses us h.1)
  where
    at : (x : Bool) → HaveSessions uses (filter P us) → HaveSessions uses (cond x (u ∷ filter P us) (filter P us))
    at true m = (h.0, m)
    at false m = m
