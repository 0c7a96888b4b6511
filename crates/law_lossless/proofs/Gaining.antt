-- Round trips of both ends, with anything served between them, deliver all that was given.
use Rattle.std.proofs.Common.{◌≡◌, min, ℕ, ◌+◌, ◌<◌, ◌≤◌, true, List, [], ◌∷◌, ◌++◌, length, ◌⊎◌, inl, inr, ⊎_elim, refl, sym, ap, subst, arith}
use Rattle.std.specs.List.{AllByRecursion}
use Rattle.book_base.specs.declared.end.End.{End}
use Rattle.book_base.specs.declared.end.End.TheVariants.{A, B}
use Rattle.book_segments.specs.Segments.{bit_of}
use Rattle.book_endpoint.specs.States.{EndState}
use Rattle.book_link.specs.declared.event.Event.{Event}
use Rattle.book_link.specs.Worlds.{same_end, Setup, Session, World}
use Rattle.book_link.specs.Runs.{run_from, run}
use Rattle.law_link.specs.Headline.{GivesFew}
use Rattle.law_link.specs.Laws.{SetupFits, TablesFit, EventFits}
use Rattle.law_link.proofs.Sessions.{both}
use Rattle.law_link.proofs.Stream.{or_lt}
use Rattle.law_progress.specs.Progress.{Sends, Resends, is_open, IsUp, all_end, IsSame, CaughtUp, takings}
use Rattle.law_progress.proofs.Facts.{Facts}
use Rattle.law_progress.proofs.Kept.{run_facts}
use Rattle.law_progress.proofs.Progressing.{run_append}
use Rattle.law_progress.proofs.Taking.{Settled, takes_all}
use Rattle.law_progress.proofs.Trips.{Tripped, Over, same_then, flip, flip_back}
use Rattle.law_progress.proofs.Turning.{Two}
use Rattle.law_lossless.specs.Reaching.{Served, Speaks, Takes, serves, is_beside, Trip, Trips, all_served, count_of, Reaches, NeverStuckAmong, CatchesUpAmong}
use Rattle.law_lossless.proofs.Among.{one_trip}
use Rattle.law_lossless.proofs.Keeping.{Kept, kept}
use Rattle.law_lossless.proofs.Serving.{served, all_after, after_nothing, after_more, after_both, over_all, Beside, same_still}

-- ---- both ends, the first of them far

-- the oldest number of each end has moved by so many, or all is acknowledged there
pub record Moved (setup : Setup) (v : World) (lead lag : ℕ) (a b : EndState) (n m : ℕ) : Type 0 where
  pub here : Session
  pub there : Session
  pub two : Two setup v lead lag B here there
  pub same_here : IsSame a here.state
  pub same_there : IsSame b there.state
  pub low_here : a.una ≤ here.state.una
  pub low_there : b.una ≤ there.state.una
  pub all_here : min (all_end a) (a.una + n) ≤ here.state.una
  pub all_there : min (all_end b) (b.una + m) ≤ there.state.una

abbrev pub Moves : Setup → World → ℕ → ℕ → EndState → EndState → ℕ → ℕ → Type 0
Moves setup v lead lag a b n m = Moved setup v lead lag a b n m ⊎ Over setup v A a b

over_turned : (setup : Setup) (v : World) (s t : EndState) → Over setup v B t s → Over setup v A s t
over_turned setup v s t o = record { over = o.over; here = o.there; there = o.here }

over_as : (setup : Setup) (v : World) (s t s1 t1 : EndState) → IsSame s s1 → IsSame t t1 → Over setup v A s1 t1 → Over setup v A s t
over_as setup v s t s1 t1 a b o = record { over = o.over; here = same_then s s1 (o.over.session A).state a o.here; there = same_then t t1 (o.over.session B).state b o.there }

same_all : (a b : EndState) → IsSame a b → all_end b ≡ all_end a
same_all a b h = let isn = h.isn in let long : length b.given ≡ length a.given = ap length h.given in let bit : bit_of b.closing ≡ bit_of a.closing = ap bit_of h.closing in omega arith

stood : (setup : Setup) (w : World) (lead lag : ℕ) (a b : Session) → Two setup w lead lag B a b → Moved setup w lead lag a.state b.state 0 0
stood setup w lead lag a b two = record {
  here = a;
  there = b;
  two = two;
  same_here = same_still a.state;
  same_there = same_still b.state;
  low_here = omega arith;
  low_there = omega arith;
  all_here = omega arith;
  all_there = omega arith;
}

-- one thing, and then others
moved_then : (setup : Setup) (v u : World) (lead lag : ℕ) (a b : EndState) (n m k l : ℕ) (one : Moved setup v lead lag a b n m) → Moved setup u lead lag one.here.state one.there.state k l → Moved setup u lead lag a b (n + k) (m + l)
moved_then setup v u lead lag a b n m k l one two =
    let low_a = one.low_here in
    let low_b = one.low_there in
    let low_a2 = two.low_here in
    let low_b2 = two.low_there in
    let all_a = one.all_here in
    let all_b = one.all_there in
    let all_a2 = two.all_here in
    let all_b2 = two.all_there in
    let end_a = same_all a one.here.state one.same_here in
    let end_b = same_all b one.there.state one.same_there in
    record {
      here = two.here;
      there = two.there;
      two = two.two;
      same_here = same_then a one.here.state two.here.state one.same_here two.same_here;
      same_there = same_then b one.there.state two.there.state one.same_there two.same_there;
      low_here = omega arith;
      low_there = omega arith;
      all_here = omega arith;
      all_there = omega arith;
    }

-- ---- anything is served

module _ (setup : Setup) (fits : SetupFits setup) (lead lag : ℕ) where
  beside_a : (v : World) (a b : EndState) → Beside setup v lead lag A a b → Moved setup v lead lag a b 0 0
  beside_a v a b k =
      let here = k.una_here in
      let there = k.una_there in
      record { here = k.here; there = k.there; two = k.two; same_here = k.same_here; same_there = k.same_there; low_here = omega arith; low_there = omega arith; all_here = omega arith; all_there = omega arith }

  beside_b : (v : World) (a b : EndState) → Beside setup v lead lag B b a → Moved setup v lead lag a b 0 0
  beside_b v a b k =
      let here = k.una_here in
      let there = k.una_there in
      record {
        here = k.there;
        there = k.here;
        two = flip_back setup v lead lag A k.here k.there k.two;
        same_here = k.same_there;
        same_there = k.same_here;
        low_here = omega arith;
        low_there = omega arith;
        all_here = omega arith;
        all_there = omega arith;
      }

  serve_by_a : (w : World) (a b : Session) → Two setup w lead lag B a b → (x : Served) → is_beside A x ≡ true → Moves setup (served setup w x) lead lag a.state b.state 0 0
  serve_by_a w a b two x on =
      let v = served setup w x in
      ⊎_elim (λ (k : Kept setup v lead lag A a.state b.state). let goal : Moves setup v lead lag a.state b.state 0 0 = inl (beside_a v a.state b.state k.beside) in goal)
      (λ (o : Over setup v A a.state b.state). inr o)
      (kept setup fits lead lag w A a b two x on)

  serve_by_b : (w : World) (a b : Session) → Two setup w lead lag B a b → (x : Served) → is_beside B x ≡ true → Moves setup (served setup w x) lead lag a.state b.state 0 0
  serve_by_b w a b two x on =
      let v = served setup w x in
      ⊎_elim (λ (k : Kept setup v lead lag B b.state a.state). let goal : Moves setup v lead lag a.state b.state 0 0 = inl (beside_b v a.state b.state k.beside) in goal)
      (λ (o : Over setup v B b.state a.state). inr (over_turned setup v a.state b.state o))
      (kept setup fits lead lag w B b a (flip setup w lead lag A a b two) x on)

  serve_one : (w : World) (a b : Session) → Two setup w lead lag B a b → (x : Served) → Moves setup (served setup w x) lead lag a.state b.state 0 0
  serve_one w a b two (Speaks (Sends A)) = serve_by_a w a b two (Speaks (Sends A)) refl
  serve_one w a b two (Speaks (Sends B)) = serve_by_b w a b two (Speaks (Sends B)) refl
  serve_one w a b two (Speaks (Resends A)) = serve_by_a w a b two (Speaks (Resends A)) refl
  serve_one w a b two (Speaks (Resends B)) = serve_by_b w a b two (Speaks (Resends B)) refl
  serve_one w a b two (Takes y) = serve_by_a w a b two (Takes y) refl

  serve_all : (w : World) (a b : Session) → Two setup w lead lag B a b → (xs : List Served) → Moves setup (all_after setup w xs) lead lag a.state b.state 0 0
  serve_all w a b two [] = subst (λ (v : World). Moves setup v lead lag a.state b.state 0 0) (sym (after_nothing setup w)) (inl (stood setup w lead lag a b two))
  serve_all w a b two (x ∷ xs) =
      let v = served setup w x in
      let u = all_after setup v xs in
      subst (λ (k : World). Moves setup k lead lag a.state b.state 0 0) (sym (after_more setup w x xs))
      (⊎_elim
      (λ (one : Moved setup v lead lag a.state b.state 0 0).
      let goal : Moves setup u lead lag a.state b.state 0 0 =
      ⊎_elim (λ (rest : Moved setup u lead lag one.here.state one.there.state 0 0). inl (moved_then setup v u lead lag a.state b.state 0 0 0 0 one rest))
      (λ (o : Over setup u A one.here.state one.there.state). inr (over_as setup u a.state b.state one.here.state one.there.state one.same_here one.same_there o))
      (serve_all v one.here one.there one.two xs) in goal)
      (λ (o : Over setup v A a.state b.state). let goal : Moves setup u lead lag a.state b.state 0 0 = inr (over_all setup fits v A a.state b.state xs o) in goal)
      (serve_one w a b two x))

  -- ---- a round trip

  trip_of : (w : World) (a b : Session) → Two setup w lead lag B a b → (e : End) (t : Trip e) → Moves setup (all_after setup w t.events) lead lag a.state b.state (bit_of (same_end A e)) (bit_of (same_end B e))
  trip_of w a b two A t =
      let v = all_after setup w t.events in
      ⊎_elim
      (λ (k : Tripped setup v lead lag A a.state b.state).
      let low_a = k.una_here in
      let low_b = k.una_there in
      let gained : min (all_end a.state) (a.state.una + 1) ≤ k.here.state.una =
      ⊎_elim (λ (x : a.state.una < all_end a.state). let moved = k.moved x in omega arith) (λ (x : all_end a.state ≤ a.state.una). omega arith) (or_lt a.state.una (all_end a.state)) in
      let m : Moved setup v lead lag a.state b.state 1 0 = record { here = k.here; there = k.there; two = k.two; same_here = k.same_here; same_there = k.same_there; low_here = low_a; low_there = low_b; all_here = gained; all_there = omega arith } in inl m)
      (λ (o : Over setup v A a.state b.state). inr o)
      (one_trip setup fits w lead lag A a b two t.events t.turns)
  trip_of w a b two B t =
      let v = all_after setup w t.events in
      ⊎_elim
      (λ (k : Tripped setup v lead lag B b.state a.state).
      let low_b = k.una_here in
      let low_a = k.una_there in
      let gained : min (all_end b.state) (b.state.una + 1) ≤ k.here.state.una =
      ⊎_elim (λ (x : b.state.una < all_end b.state). let moved = k.moved x in omega arith) (λ (x : all_end b.state ≤ b.state.una). omega arith) (or_lt b.state.una (all_end b.state)) in
      let m : Moved setup v lead lag a.state b.state 0 1 = record {
        here = k.there;
        there = k.here;
        two = flip_back setup v lead lag A k.here k.there k.two;
        same_here = k.same_there;
        same_there = k.same_here;
        low_here = low_a;
        low_there = low_b;
        all_here = omega arith;
        all_there = gained;
      } in inl m)
      (λ (o : Over setup v B b.state a.state). inr (over_turned setup v a.state b.state o))
      (one_trip setup fits w lead lag B b a (flip setup w lead lag A a b two) t.events t.turns)

  -- ---- all of them

  -- some, and then others
  onward : (w : World) (xs ys : List Served) (a b : EndState) (n m k l : ℕ) → Moves setup (all_after setup w xs) lead lag a b n m
      → ((v : World) (c d : Session) → Two setup v lead lag B c d → Moves setup (all_after setup v ys) lead lag c.state d.state k l) → Moves setup (all_after setup w (xs ++ ys)) lead lag a b (n + k) (m + l)
  onward w xs ys a b n m k l first rest =
      let v = all_after setup w xs in
      let u = all_after setup v ys in
      subst (λ (x : World). Moves setup x lead lag a b (n + k) (m + l)) (sym (after_both setup w xs ys))
      (⊎_elim
      (λ (one : Moved setup v lead lag a b n m).
      let goal : Moves setup u lead lag a b (n + k) (m + l) =
      ⊎_elim (λ (two : Moved setup u lead lag one.here.state one.there.state k l). inl (moved_then setup v u lead lag a b n m k l one two))
      (λ (o : Over setup u A one.here.state one.there.state). inr (over_as setup u a b one.here.state one.there.state one.same_here one.same_there o))
      (rest v one.here one.there one.two) in goal)
      (λ (o : Over setup v A a b). let goal : Moves setup u lead lag a b (n + k) (m + l) = inr (over_all setup fits v A a b ys o) in goal)
      first)

  serve_trips : (ends : List End) (trips : Trips ends) (w : World) (a b : Session) → Two setup w lead lag B a b → Moves setup (all_after setup w (all_served ends trips)) lead lag a.state b.state (count_of A ends) (count_of B ends)
  serve_trips [] after w a b two = serve_all w a b two after
  serve_trips (e ∷ ends) trips w a b two =
      let trip = trips.0 in
      let later = all_served ends trips.1 in
      let n = count_of A (e ∷ ends) in
      let m = count_of B (e ∷ ends) in
      let v = all_after setup w (trip.before ++ (trip.events ++ later)) in
      let done : Moves setup v lead lag a.state b.state (0 + n) (0 + m) =
      onward w trip.before (trip.events ++ later) a.state b.state 0 0 n m (serve_all w a b two trip.before)
      (λ u c d at. onward u trip.events later c.state d.state (bit_of (same_end A e)) (bit_of (same_end B e)) (count_of A ends) (count_of B ends) (trip_of u c d at e trip)
      (λ k f g now. serve_trips ends trips.1 k f g now)) in
      let n_is : 0 + n ≡ n = omega arith in
      let m_is : 0 + m ≡ m = omega arith in
      subst (λ (k : ℕ). Moves setup v lead lag a.state b.state k m) n_is (subst (λ (k : ℕ). Moves setup v lead lag a.state b.state (0 + n) k) m_is done)

-- ---- the laws

module _ (setup : Setup) (fits : SetupFits setup) (w : World) (lead lag : ℕ) (facts : Facts setup w) (few : GivesFew w) (up : IsUp setup w lead lag) (opened : (e : End) → is_open (up.session e).state.phase ≡ true) where
  both_up : Two setup w lead lag B (up.session A) (up.session B)
  both_up = record {
    facts = facts;
    few = few;
    up = record { session = up.session; lives = up.lives; partners = up.partners; opened = opened; keyed = up.keyed.sends; aligned = up.keyed.aligned; early = up.keyed.early; late = up.keyed.late; unforged = up.keyed.unforged };
    far = refl;
    near = refl;
  }

  reaches : (v : World) (ends : List End) → Moves setup v lead lag (up.session A).state (up.session B).state (count_of A ends) (count_of B ends) → Reaches setup w v lead lag up ends
  reaches v ends (inl r) =
      let far = r.two.far in
      let near = r.two.near in
      record {
        after = record {
          session = r.two.up.session;
          lives = r.two.up.lives;
          same = both (λ e. IsSame (up.session e).state (r.two.up.session e).state) (subst (λ (s : Session). IsSame (up.session A).state s.state) (sym far) r.same_here)
              (subst (λ (s : Session). IsSame (up.session B).state s.state) (sym near) r.same_there);
        };
        gained = both (λ e. min (all_end (up.session e).state) ((up.session e).state.una + count_of e ends) ≤ (r.two.up.session e).state.una)
            (subst (λ (s : Session). min (all_end (up.session A).state) ((up.session A).state.una + count_of A ends) ≤ s.state.una) (sym far) r.all_here)
            (subst (λ (s : Session). min (all_end (up.session B).state) ((up.session B).state.una + count_of B ends) ≤ s.state.una) (sym near) r.all_there);
      }
  reaches v ends (inr o) =
      let over = o.over in
      let end_a = same_all (up.session A).state (over.session A).state o.here in
      let end_b = same_all (up.session B).state (over.session B).state o.there in
      let all_a = over.all A in
      let all_b = over.all B in
      record {
        after = record { session = over.session; lives = over.lives; same = both (λ e. IsSame (up.session e).state (over.session e).state) o.here o.there };
        gained = both (λ e. min (all_end (up.session e).state) ((up.session e).state.una + count_of e ends) ≤ (over.session e).state.una) (omega arith) (omega arith);
      }

  caught : (ends : List End) (trips : Trips ends) → ((e : End) → all_end (up.session e).state ≤ (up.session e).state.una + count_of e ends)
      → CaughtUp setup w (run_from setup w (serves setup w (all_served ends trips) ++ takings)) lead lag up
  caught ends trips low =
      let a0 = up.session A in
      let b0 = up.session B in
      let events = all_served ends trips in
      let v = all_after setup w events in
      subst (λ (k : World). CaughtUp setup w k lead lag up) (sym (run_append setup w (serves setup w events) takings))
      (takes_all setup fits w v lead lag up
      (⊎_elim
      (λ (r : Moved setup v lead lag a0.state b0.state (count_of A ends) (count_of B ends)).
      let low_a = low A in
      let low_b = low B in
      let end_a = same_all a0.state r.here.state r.same_here in
      let end_b = same_all b0.state r.there.state r.same_there in
      let all_a = r.all_here in
      let all_b = r.all_there in
      let settled : Settled setup v lead lag a0.state b0.state = record { here = r.here; there = r.there; two = r.two; same_here = r.same_here; same_there = r.same_there; all_here = omega arith; all_there = omega arith } in inl settled)
      (λ (o : Over setup v A a0.state b0.state). inr o)
      (serve_trips setup fits lead lag ends trips w a0 b0 both_up)))

pub never_stuck_among : (setup : Setup) (fits : SetupFits setup) (tables : TablesFit setup) (events : List Event) → AllByRecursion EventFits events → GivesFew (run setup events) → NeverStuckAmong setup (run setup events)
never_stuck_among setup fits tables events f few lead lag ends trips up opened =
    let w = run setup events in
    let facts = run_facts setup fits tables events f in
    reaches setup fits w lead lag facts few up opened (all_after setup w (all_served ends trips)) ends
    (serve_trips setup fits lead lag ends trips w (up.session A) (up.session B) (both_up setup fits w lead lag facts few up opened))

pub catches_up_among : (setup : Setup) (fits : SetupFits setup) (tables : TablesFit setup) (events : List Event) → AllByRecursion EventFits events → GivesFew (run setup events) → CatchesUpAmong setup (run setup events)
catches_up_among setup fits tables events f few lead lag ends trips up opened low = caught setup fits (run setup events) lead lag (run_facts setup fits tables events f) few up opened ends trips low
