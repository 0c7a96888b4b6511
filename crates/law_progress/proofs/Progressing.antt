-- Never stuck, and caught up.
use Rattle.std.proofs.Common.{◌≡◌, min, ℕ, zero, suc, ◌+◌, ◌<◌, ◌≤◌, ◌==◌, Bool, true, false, ◌&&◌, ◌||◌, nat_lt, List, [], ◌∷◌, ◌++◌, length, Option, Some, None, ◌⊎◌, inl, inr, ⊎_elim, refl, sym, ap, ◌∙◌, subst, arith, append-nil, length-append}
use Rattle.std.specs.List.{AllByRecursion}
use Rattle.book_base.specs.declared.end.End.{End}
use Rattle.book_base.specs.declared.end.End.TheVariants.{A, B}
use Rattle.book_segments.specs.Received.{below_limit, bytes_from}
use Rattle.book_segments.specs.Segments.{bit_of}
use Rattle.book_segments.proofs.Fields.{some_is, lt_is, and_tells}
use Rattle.book_endpoint.specs.declared.phase.Phase.{Phase}
use Rattle.book_endpoint.specs.declared.phase.Phase.TheVariants.{SynReceived}
use Rattle.book_endpoint.specs.Emissions.{is_syn_received}
use Rattle.book_base.proofs.TestLaws.{by_bool}
use Rattle.std.proofs.lemmas.Bool.Decides.{nat_tests}
use Rattle.book_endpoint.specs.States.{EndState, first, ready, ready_count, ready_at, take_out, given_end, passed_fin, at_end}
use Rattle.book_link.specs.declared.event.Event.{Event}
use Rattle.book_link.specs.declared.event.Event.TheVariants.{At}
use Rattle.book_link.specs.declared.event.Action.TheVariants.{Take}
use Rattle.book_link.specs.Worlds.{other, Setup, Session, World, side, live, partner_among, forgeries}
use Rattle.book_link.specs.Steps.{step}
use Rattle.book_link.specs.Runs.{run_from, run}
use Rattle.law_link.specs.Headline.{GivesFew, IsPrefixOf, ComesFrom}
use Rattle.law_link.specs.Laws.{SetupFits, TablesFit, EventFits}
use Rattle.law_link.proofs.Stream.{or_lt}
use Rattle.law_link.proofs.Sessions.{both, partner_is}
use Rattle.law_link.proofs.Received.{FinMade, OfPartner, Received}
use Rattle.law_link.proofs.Prefix.{comes, whole_prefix}
use Rattle.law_progress.specs.Progress.{Turn, Sends, Resends, turn_events, exchange, round_trip, round_trips, is_open, is_up, IsUp, all_end, IsWaiting, IsSame, Moves, Gains, CaughtUp, takings, NeverStuck, EachTripGains, CatchesUp}
use Rattle.std.proofs.lemmas.Option.{slice_get_within}
use Rattle.law_link.proofs.Carrying.{GivenAt}
use Rattle.law_link.proofs.Whole.{Whole}
use Rattle.law_link.proofs.Invariant.{live_whole}
use Rattle.law_progress.proofs.Facts.{Facts, limit_none, live_all, live_found, partner_live, back_again, forth_again}
use Rattle.law_progress.proofs.Kept.{run_facts}
use Rattle.law_progress.proofs.Turning.{Two, near_ends, far_ends, near_lives, far_lives, all_taken, two_taken, took_window}
use Rattle.law_progress.proofs.Trips.{Tripped, Over, same_then, over_after, trip, flip, flip_back}
use Rattle.law_progress.proofs.Taking.{Settled, takes_all}
use Rattle.law_progress.proofs.Halving.{Half, two_of, near_una, open_trip, waiting_trip}
use Rattle.law_progress.proofs.Joining.{Ready}

-- ---- the worlds of an exchange

pub run_append : (setup : Setup) (w : World) (xs ys : List Event) → run_from setup w (xs ++ ys) ≡ run_from setup (run_from setup w xs) ys
run_append setup w [] ys = refl
run_append setup w (x ∷ xs) ys = run_append setup (step setup w x).world xs ys

-- the world after an exchange
abbrev pub after : Setup → World → List Turn → World
after setup w turns = run_from setup w (exchange setup w turns)

pub after_turn : (setup : Setup) (w : World) (t : Turn) (turns : List Turn) → after setup w (t ∷ turns) ≡ after setup (run_from setup w (turn_events setup w t)) turns
unfolding exchange
after_turn setup w t turns = let now = turn_events setup w t in run_append setup w now (exchange setup (run_from setup w now) turns)

pub after_none : (setup : Setup) (w : World) → after setup w [] ≡ w
unfolding exchange
after_none setup w = refl

after_append : (setup : Setup) (w : World) (xs ys : List Turn) → after setup w (xs ++ ys) ≡ after setup (after setup w xs) ys
after_append setup w [] ys = ap (λ (v : World). after setup v ys) (sym (after_none setup w))
after_append setup w (x ∷ xs) ys =
    let v = run_from setup w (turn_events setup w x) in
    after_turn setup w x (xs ++ ys) ∙ after_append setup v xs ys ∙ ap (λ (u : World). after setup u ys) (sym (after_turn setup w x xs))

-- the four turns of a round trip
trip_is : (setup : Setup) (w : World) (e : End) → let v1 = run_from setup w (turn_events setup w (Resends (other e))) in
    let v2 = run_from setup v1 (turn_events setup v1 (Resends e)) in
    let v3 = run_from setup v2 (turn_events setup v2 (Sends e)) in
    after setup w (round_trip e) ≡ run_from setup v3 (turn_events setup v3 (Sends (other e)))
trip_is setup w e =
    let v1 = run_from setup w (turn_events setup w (Resends (other e))) in
    let v2 = run_from setup v1 (turn_events setup v1 (Resends e)) in
    let v3 = run_from setup v2 (turn_events setup v2 (Sends e)) in
    let v4 = run_from setup v3 (turn_events setup v3 (Sends (other e))) in
    after_turn setup w (Resends (other e)) (Resends e ∷ Sends e ∷ Sends (other e) ∷ []) ∙ after_turn setup v1 (Resends e) (Sends e ∷ Sends (other e) ∷ [])
    ∙ after_turn setup v2 (Sends e) (Sends (other e) ∷ []) ∙ after_turn setup v3 (Sends (other e)) [] ∙ after_none setup v4

-- after a round trip
abbrev Trip : Setup → World → ℕ → ℕ → End → EndState → EndState → Type 0
Trip setup v lead lag e s t = Tripped setup v lead lag e s t ⊎ Over setup v e s t

tripped : (setup : Setup) (fits : SetupFits setup) (w : World) (lead lag : ℕ) (e : End) (s t : Session) → Two setup w lead lag (other e) s t → Trip setup (after setup w (round_trip e)) lead lag e s.state t.state
tripped setup fits w lead lag e s t two = subst (λ (v : World). Trip setup v lead lag e s.state t.state) (sym (trip_is setup w e)) (trip setup fits lead lag e w s t two)

-- a finished link stays so
over_turns : (setup : Setup) (fits : SetupFits setup) (w : World) (e : End) (s t : EndState) (turns : List Turn) → Over setup w e s t → Over setup (after setup w turns) e s t
over_turns setup fits w e s t [] o = subst (λ (v : World). Over setup v e s t) (sym (after_none setup w)) o
over_turns setup fits w e s t (x ∷ turns) o =
    let v = run_from setup w (turn_events setup w x) in
    subst (λ (k : World). Over setup k e s t) (sym (after_turn setup w x turns)) (over_turns setup fits v e s t turns (over_after setup fits w e s t o x))

-- ---- never stuck

-- one end is past the handshake; the other is too, or it waits for the last ACK
past_or_waits : (s t : EndState) → is_up s t ≡ true → (is_open s.phase ≡ true) ⊎ ((s.phase ≡ SynReceived) × (s.isn < s.next) × (is_open t.phase ≡ true))
past_or_waits s t up =
    by_bool ((is_open s.phase ≡ true) ⊎ ((s.phase ≡ SynReceived) × (s.isn < s.next) × (is_open t.phase ≡ true))) (is_open s.phase) (λ on. inl on)
    (λ off. inr (waits_of off))
  where
    received_is : (phase : Phase) → is_syn_received phase ≡ true → phase ≡ SynReceived
    received_is SynReceived e = refl
    received_is _ e = absurd (cc)

    other_way : (o b : Bool) → o ≡ false → (o || b) ≡ true → b ≡ true
    other_way false b e f = f
    other_way true b e f = absurd (cc)

    waits_of : is_open s.phase ≡ false → (s.phase ≡ SynReceived) × (s.isn < s.next) × (is_open t.phase ≡ true)
    waits_of off =
        let all = other_way (is_open s.phase) (is_syn_received s.phase && nat_lt s.isn s.next && is_open t.phase) off up in
        let two = and_tells (is_syn_received s.phase && nat_lt s.isn s.next) (is_open t.phase) all in
        let one = and_tells (is_syn_received s.phase) (nat_lt s.isn s.next) two.0 in
        (received_is s.phase one.0, lt_is s.isn s.next one.1, two.1)

module _ (setup : Setup) (w : World) (lead lag : ℕ) (facts : Facts setup w) (few : GivesFew w) (up : IsUp setup w lead lag) where
  knows : (y : End) → (up.session y).state.peer_isn ≡ Some (up.session (other y)).state.isn
  knows A = up.partners.here
  knows B = up.partners.there

  ready_up : (y : End) → Ready setup w lead lag y (up.session (other y)) (up.session y)
  ready_up y = record { facts = facts; far_lives = up.lives (other y); near_lives = up.lives y; keyed = up.keyed }

  -- the end y waits, and the other is past the handshake
  half_up : (y : End) → (up.session y).state.phase ≡ SynReceived → (up.session y).state.isn < (up.session y).state.next → is_open (up.session (other y)).state.phase ≡ true → Half setup w lead lag y (up.session (other y)) (up.session y)
  half_up y waits sent opened =
      record { ready = ready_up y; few = few; opened = opened; waiting = waits; sent = sent; here = forth_again (λ (f : End). (up.session (other y)).state.peer_isn ≡ Some (up.session f).state.isn) y (knows (other y)); there = knows y }

  -- both are past it, or one waits
  up_cases : Two setup w lead lag B (up.session A) (up.session B) ⊎ (Half setup w lead lag B (up.session A) (up.session B) ⊎ Half setup w lead lag A (up.session B) (up.session A))
  up_cases =
      let a = up.session A in
      let b = up.session B in
      let G = Two setup w lead lag B a b ⊎ (Half setup w lead lag B a b ⊎ Half setup w lead lag A b a) in
      ⊎_elim
      (λ (oa : is_open a.state.phase ≡ true).
      let goal : G =
      ⊎_elim (λ (ob : is_open b.state.phase ≡ true). inl (two_of setup w lead lag B a b (ready_up B) few oa ob (knows A) (knows B)))
      (λ (z : (b.state.phase ≡ SynReceived) × (b.state.isn < b.state.next) × (is_open a.state.phase ≡ true)). inr (inl (half_up B z.0 z.1 z.2)))
      (past_or_waits b.state a.state (up.opened B)) in goal)
      (λ (z : (a.state.phase ≡ SynReceived) × (a.state.isn < a.state.next) × (is_open b.state.phase ≡ true)). let goal : G = inr (inr (half_up A z.0 z.1 z.2)) in goal)
      (past_or_waits a.state b.state (up.opened A))

first_trip : (setup : Setup) (fits : SetupFits setup) (w : World) (lead lag : ℕ) → Facts setup w → GivesFew w → (up : IsUp setup w lead lag) (e : End)
    → Trip setup (after setup w (round_trip e)) lead lag e (up.session e).state (up.session (other e)).state
first_trip setup fits w lead lag facts few up A =
    let a = up.session A in
    let b = up.session B in
    subst (λ (v : World). Trip setup v lead lag A a.state b.state) (sym (trip_is setup w A))
    (⊎_elim (λ (two : Two setup w lead lag B a b). trip setup fits lead lag A w a b two)
    (λ (z : Half setup w lead lag B a b ⊎ Half setup w lead lag A b a).
    ⊎_elim (λ (h : Half setup w lead lag B a b). open_trip setup fits lead lag A w a b h) (λ (h : Half setup w lead lag A b a). waiting_trip setup fits lead lag B w b a h) z)
    (up_cases setup w lead lag facts few up))
first_trip setup fits w lead lag facts few up B =
    let a = up.session A in
    let b = up.session B in
    subst (λ (v : World). Trip setup v lead lag B b.state a.state) (sym (trip_is setup w B))
    (⊎_elim (λ (two : Two setup w lead lag B a b). trip setup fits lead lag B w b a (flip setup w lead lag A a b two))
    (λ (z : Half setup w lead lag B a b ⊎ Half setup w lead lag A b a).
    ⊎_elim (λ (h : Half setup w lead lag B a b). waiting_trip setup fits lead lag A w a b h) (λ (h : Half setup w lead lag A b a). open_trip setup fits lead lag B w b a h) z)
    (up_cases setup w lead lag facts few up))

of_both : (P : End → Type 0) (e : End) → P e → P (other e) → (f : End) → P f
of_both P A a b A = a
of_both P A a b B = b
of_both P B a b A = b
of_both P B a b B = a

far_is : (setup : Setup) (v : World) (lead lag : ℕ) (e : End) (a b : Session) (two : Two setup v lead lag (other e) a b) → two.up.session e ≡ a
far_is setup v lead lag A a b two = two.far
far_is setup v lead lag B a b two = two.far

same_end : (a b : EndState) → IsSame a b → all_end b ≡ all_end a
same_end a b h = let isn = h.isn in let long : length b.given ≡ length a.given = ap length h.given in let bit : bit_of b.closing ≡ bit_of a.closing = ap bit_of h.closing in omega arith

moves : (setup : Setup) (w v : World) (lead lag : ℕ) (up : IsUp setup w lead lag) (e : End) → IsWaiting (up.session e).state
    → Tripped setup v lead lag e (up.session e).state (up.session (other e)).state ⊎ Over setup v e (up.session e).state (up.session (other e)).state → Moves setup w v lead lag up e
moves setup w v lead lag up e waits (inl r) =
    let two = r.two in
    let here : two.up.session e ≡ r.here = far_is setup v lead lag e r.here r.there two in
    let there : two.up.session (other e) ≡ r.there = two.near in
    let acked = (far_ends setup v lead lag (other e) r.here r.there two).acked in
    let moved = r.moved waits in
    let una : (two.up.session e).state.una ≡ r.here.state.una = ap (λ (s : Session). s.state.una) here in
    let x : (two.up.session (other e)).state.expected ≡ r.there.state.expected = ap (λ (s : Session). s.state.expected) there in
    record {
      after = record {
        session = two.up.session;
        lives = two.up.lives;
        same = of_both (λ (f : End). IsSame (up.session f).state (two.up.session f).state) e
            (subst (λ (s : Session). IsSame (up.session e).state s.state) (sym here) r.same_here)
            (subst (λ (s : Session). IsSame (up.session (other e)).state s.state) (sym there) r.same_there);
      };
      moved = omega arith;
      received = omega arith;
    }
moves setup w v lead lag up e waits (inr o) =
    let over = o.over in
    let all = over.all e in
    let end_is = same_end (up.session e).state (over.session e).state o.here in
    let got : all_end (over.session e).state ≤ (over.session (other e)).state.expected = forth_again (λ (f : End). all_end (over.session f).state ≤ (over.session (other e)).state.expected) e (over.got (other e)) in
    record {
      after = record { session = over.session; lives = over.lives; same = of_both (λ (f : End). IsSame (up.session f).state (over.session f).state) e o.here o.there };
      moved = omega arith;
      received = omega arith;
    }

pub never_stuck : (setup : Setup) (fits : SetupFits setup) (tables : TablesFit setup) (events : List Event) → AllByRecursion EventFits events → GivesFew (run setup events) → NeverStuck setup (run setup events)
never_stuck setup fits tables events f few lead lag e up waits =
    let w = run setup events in
    let facts = run_facts setup fits tables events f in
    moves setup w (after setup w (round_trip e)) lead lag up e waits (first_trip setup fits w lead lag facts few up e)

-- ---- caught up

-- after some round trips of both ends, of which the first is far
record Tripping (setup : Setup) (v : World) (lead lag : ℕ) (a b : EndState) (n : ℕ) : Type 0 where
  here : Session
  there : Session
  two : Two setup v lead lag B here there
  same_here : IsSame a here.state
  same_there : IsSame b there.state
  all_here : min (all_end a) (a.una + n) ≤ here.state.una
  all_there : min (all_end b) (b.una + n) ≤ there.state.una

-- what holds after so many round trips of both ends
abbrev Trips : Setup → ℕ → World → ℕ → ℕ → Session → Session → Type 0
Trips setup n w lead lag a b = Tripping setup (after setup w (round_trips n)) lead lag a.state b.state n ⊎ Over setup (after setup w (round_trips n)) A a.state b.state

-- one more round trip of both ends, after the first one of the first end
trips_more : (setup : Setup) (fits : SetupFits setup) (n : ℕ) → ((w : World) (lead lag : ℕ) (a b : Session) → Two setup w lead lag B a b → Trips setup n w lead lag a b)
    → (w : World) (lead lag : ℕ) (a b : Session) → Trip setup (after setup w (round_trip A)) lead lag A a.state b.state → Trips setup (suc n) w lead lag a b
trips_more setup fits n rest w lead lag a b first =
    let v = after setup w (round_trip A) in
    let u = after setup v (round_trip B) in
    let P : World → Type 0 = λ k. Tripping setup k lead lag a.state b.state (suc n) ⊎ Over setup k A a.state b.state in
    let is : after setup w (round_trips (suc n)) ≡ after setup u (round_trips n) =
    after_append setup w (round_trip A) (round_trip B ++ round_trips n) ∙ after_append setup v (round_trip B) (round_trips n) in
    subst P (sym is)
    (⊎_elim
    (λ (one : Tripped setup v lead lag A a.state b.state).
    let other_way = flip setup v lead lag A one.here one.there one.two in
    ⊎_elim
    (λ (more : Tripped setup u lead lag B one.there.state one.here.state).
    let back_two = flip_back setup u lead lag A more.here more.there more.two in
    let same_a = same_then a.state one.here.state more.there.state one.same_here more.same_there in
    let same_b = same_then b.state one.there.state more.here.state one.same_there more.same_here in
    let end_a = same_end a.state more.there.state same_a in
    let end_b = same_end b.state more.here.state same_b in
    let end_b1 = same_end b.state one.there.state one.same_there in
    let up_a = one.una_here in
    let up_a2 = more.una_there in
    let up_b = one.una_there in
    let up_b2 = more.una_here in
    let left_a : min (all_end a.state) (a.state.una + 1) ≤ more.there.state.una =
    ⊎_elim (λ (x : a.state.una < all_end a.state). let moved = one.moved x in omega arith) (λ (x : all_end a.state ≤ a.state.una). omega arith) (or_lt a.state.una (all_end a.state)) in
    let left_b : min (all_end b.state) (b.state.una + 1) ≤ more.here.state.una =
    ⊎_elim (λ (x : one.there.state.una < all_end one.there.state). let moved = more.moved x in omega arith) (λ (x : all_end one.there.state ≤ one.there.state.una). omega arith)
    (or_lt one.there.state.una (all_end one.there.state)) in
    ⊎_elim
    (λ (r : Tripping setup (after setup u (round_trips n)) lead lag more.there.state more.here.state n).
    let all_a = r.all_here in
    let all_b = r.all_there in
    let goal : Tripping setup (after setup u (round_trips n)) lead lag a.state b.state (suc n) = record {
      here = r.here;
      there = r.there;
      two = r.two;
      same_here = same_then a.state more.there.state r.here.state same_a r.same_here;
      same_there = same_then b.state more.here.state r.there.state same_b r.same_there;
      all_here = omega arith;
      all_there = omega arith;
    } in inl goal)
    (λ (o : Over setup (after setup u (round_trips n)) A more.there.state more.here.state).
    inr (record { over = o.over; here = same_then a.state more.there.state (o.over.session A).state same_a o.here; there = same_then b.state more.here.state (o.over.session B).state same_b o.there }))
    (rest u lead lag more.there more.here back_two))
    (λ (o : Over setup u B one.there.state one.here.state).
    let turned : Over setup u A a.state b.state = record { over = o.over; here = same_then a.state one.here.state (o.over.session A).state one.same_here o.there; there = same_then b.state one.there.state (o.over.session B).state one.same_there o.here } in
    inr (over_turns setup fits u A a.state b.state (round_trips n) turned))
    (tripped setup fits v lead lag B one.there one.here other_way))
    (λ (o : Over setup v A a.state b.state). inr (over_turns setup fits u A a.state b.state (round_trips n) (over_turns setup fits v A a.state b.state (round_trip B) o)))
    first)

trips : (setup : Setup) (fits : SetupFits setup) (n : ℕ) (w : World) (lead lag : ℕ) (a b : Session) → Two setup w lead lag B a b → Trips setup n w lead lag a b
trips setup fits zero w lead lag a b two =
    let goal : Tripping setup w lead lag a.state b.state 0 = record {
      here = a;
      there = b;
      two = two;
      same_here = record { isn = refl; given = refl; closing = refl };
      same_there = record { isn = refl; given = refl; closing = refl };
      all_here = omega arith;
      all_there = omega arith;
    } in
    inl (subst (λ (v : World). Tripping setup v lead lag a.state b.state 0) (sym (after_none setup w)) goal)
trips setup fits (suc n) w lead lag a b two = trips_more setup fits n (trips setup fits n) w lead lag a b (tripped setup fits w lead lag A a b two)

catch_up : (setup : Setup) (fits : SetupFits setup) (n : ℕ) (w : World) (lead lag : ℕ) (up : IsUp setup w lead lag) → Trips setup n w lead lag (up.session A) (up.session B) → ((e : End) → all_end (up.session e).state ≤ (up.session e).state.una + n)
    → CaughtUp setup w (run_from setup w (exchange setup w (round_trips n) ++ takings)) lead lag up
catch_up setup fits n w lead lag up done low =
    let a0 = up.session A in
    let b0 = up.session B in
    let v = after setup w (round_trips n) in
    let is : run_from setup w (exchange setup w (round_trips n) ++ takings) ≡ run_from setup v takings = run_append setup w (exchange setup w (round_trips n)) takings in
    subst (λ (k : World). CaughtUp setup w k lead lag up) (sym is)
    (takes_all setup fits w v lead lag up
    (⊎_elim
    (λ (r : Tripping setup v lead lag a0.state b0.state n).
    let low_a = low A in
    let low_b = low B in
    let end_a = same_end a0.state r.here.state r.same_here in
    let end_b = same_end b0.state r.there.state r.same_there in
    let all_a = r.all_here in
    let all_b = r.all_there in
    let settled : Settled setup v lead lag a0.state b0.state = record {
      here = r.here;
      there = r.there;
      two = r.two;
      same_here = r.same_here;
      same_there = r.same_there;
      all_here = omega arith;
      all_there = omega arith;
    } in inl settled)
    (λ (o : Over setup v A a0.state b0.state). inr o)
    done))

gains : (setup : Setup) (w v : World) (lead lag n : ℕ) (up : IsUp setup w lead lag) → Tripping setup v lead lag (up.session A).state (up.session B).state n ⊎ Over setup v A (up.session A).state (up.session B).state → Gains setup w v lead lag up n
gains setup w v lead lag n up (inl r) =
    let far = r.two.far in
    let near = r.two.near in
    record {
      after = record {
        session = r.two.up.session;
        lives = r.two.up.lives;
        same = both (λ e. IsSame (up.session e).state (r.two.up.session e).state) (subst (λ (s : Session). IsSame (up.session A).state s.state) (sym far) r.same_here)
            (subst (λ (s : Session). IsSame (up.session B).state s.state) (sym near) r.same_there);
      };
      gained = both (λ e. min (all_end (up.session e).state) ((up.session e).state.una + n) ≤ (r.two.up.session e).state.una)
          (subst (λ (s : Session). min (all_end (up.session A).state) ((up.session A).state.una + n) ≤ s.state.una) (sym far) r.all_here)
          (subst (λ (s : Session). min (all_end (up.session B).state) ((up.session B).state.una + n) ≤ s.state.una) (sym near) r.all_there);
    }
gains setup w v lead lag n up (inr o) =
    let over = o.over in
    let end_a = same_end (up.session A).state (over.session A).state o.here in
    let end_b = same_end (up.session B).state (over.session B).state o.there in
    let all_a = over.all A in
    let all_b = over.all B in
    record {
      after = record { session = over.session; lives = over.lives; same = both (λ e. IsSame (up.session e).state (over.session e).state) o.here o.there };
      gained = both (λ e. min (all_end (up.session e).state) ((up.session e).state.una + n) ≤ (over.session e).state.una) (omega arith) (omega arith);
    }

-- what so many round trips gain
trips_up : (setup : Setup) (fits : SetupFits setup) (n : ℕ) (w : World) (lead lag : ℕ) → Facts setup w → GivesFew w → (up : IsUp setup w lead lag) → Trips setup (suc n) w lead lag (up.session A) (up.session B)
trips_up setup fits n w lead lag facts few up = trips_more setup fits n (trips setup fits n) w lead lag (up.session A) (up.session B) (first_trip setup fits w lead lag facts few up A)

gains_all : (setup : Setup) (fits : SetupFits setup) (w : World) (lead lag n : ℕ) → Facts setup w → GivesFew w → (up : IsUp setup w lead lag) → Gains setup w (after setup w (round_trips n)) lead lag up n
gains_all setup fits w lead lag zero facts few up =
    let goal : Gains setup w w lead lag up 0 = record {
      after = record { session = up.session; lives = up.lives; same = λ e. record { isn = refl; given = refl; closing = refl } };
      gained = λ e. omega arith;
    } in
    subst (λ (v : World). Gains setup w v lead lag up 0) (sym (after_none setup w)) goal
gains_all setup fits w lead lag (suc n) facts few up = gains setup w (after setup w (round_trips (suc n))) lead lag (suc n) up (trips_up setup fits n w lead lag facts few up)

pub each_trip_gains : (setup : Setup) (fits : SetupFits setup) (tables : TablesFit setup) (events : List Event) → AllByRecursion EventFits events → GivesFew (run setup events) → EachTripGains setup (run setup events)
each_trip_gains setup fits tables events f few lead lag n up = gains_all setup fits (run setup events) lead lag n (run_facts setup fits tables events f) few up

-- at an end that waits for the ACK of its SYN a number waits
waits_one : (setup : Setup) (w : World) (lead lag : ℕ) (y : End) (a b : Session) → Half setup w lead lag y a b → all_end b.state ≤ b.state.una + 0 → ⊥
waits_one setup w lead lag y a b h low = let una = near_una setup w lead lag y a b h in omega arith

caught_all : (setup : Setup) (fits : SetupFits setup) (w : World) (lead lag n : ℕ) → Facts setup w → GivesFew w → (up : IsUp setup w lead lag) → ((e : End) → all_end (up.session e).state ≤ (up.session e).state.una + n)
    → CaughtUp setup w (run_from setup w (exchange setup w (round_trips n) ++ takings)) lead lag up
caught_all setup fits w lead lag zero facts few up low =
    let a = up.session A in
    let b = up.session B in
    let goal : Trips setup 0 w lead lag a b =
    ⊎_elim (λ (two : Two setup w lead lag B a b). trips setup fits 0 w lead lag a b two)
    (λ (z : Half setup w lead lag B a b ⊎ Half setup w lead lag A b a).
    absurd (⊎_elim (λ (h : Half setup w lead lag B a b). waits_one setup w lead lag B a b h (low B)) (λ (h : Half setup w lead lag A b a). waits_one setup w lead lag A b a h (low A)) z))
    (up_cases setup w lead lag facts few up) in
    catch_up setup fits 0 w lead lag up goal low
caught_all setup fits w lead lag (suc n) facts few up low = catch_up setup fits (suc n) w lead lag up (trips_up setup fits n w lead lag facts few up) low

pub catches_up : (setup : Setup) (fits : SetupFits setup) (tables : TablesFit setup) (events : List Event) → AllByRecursion EventFits events → GivesFew (run setup events) → CatchesUp setup (run setup events)
catches_up setup fits tables events f few lead lag n up low = caught_all setup fits (run setup events) lead lag n (run_facts setup fits tables events f) few up low
