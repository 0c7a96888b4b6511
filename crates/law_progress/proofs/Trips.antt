-- A round trip moves the oldest unacknowledged number.
use Rattle.std.proofs.Common.{◌≡◌, ℕ, ◌+◌, ◌<◌, ◌≤◌, ◌==◌, Bool, true, false, ◌&&◌, nat_lt, ◌∷◌, length, ◌⊎◌, inl, inr, ⊎_elim, refl, sym, ap, ◌∙◌, subst, arith}
use Rattle.std.proofs.lemmas.Bool.Decides.{nat_tests}
use Rattle.book_base.specs.declared.end.End.{End}
use Rattle.book_base.specs.declared.end.End.TheVariants.{A, B}
use Rattle.book_endpoint.specs.States.{EndState, given_end}
use Rattle.book_segments.specs.Segments.{bit_of}
use Rattle.book_endpoint.specs.Emissions.{Quiet, emit, resend, is_sending, unsent, window_end, sends_data, sends_fin}
use Rattle.book_link.specs.declared.event.Event.TheVariants.{At}
use Rattle.book_link.specs.declared.event.Action.TheVariants.{Send, Resend, Take}
use Rattle.book_link.specs.Outcomes.{Idle, Nothing}
use Rattle.book_link.specs.Worlds.{other, Setup, pair_of, Session, World, side}
use Rattle.book_link.specs.Steps.{step}
use Rattle.book_link.specs.Runs.{run_from}
use Rattle.law_link.specs.Laws.{SetupFits}
use Rattle.law_link.proofs.Stream.{or_lt}
use Rattle.law_progress.specs.Progress.{Turn, Sends, Resends, delivering, turn_events, all_end, IsWaiting, IsSame}
use Rattle.law_progress.proofs.Making.{Rest, rest, takes, Makes, send_case, resend_case}
use Rattle.law_progress.proofs.Acting.{StaysUp}
use Rattle.law_progress.proofs.Finishing.{Finished, over_turn}
use Rattle.law_progress.proofs.Turning.{Two, near_ends, far_ends, After, AfterMade, Gone, all_taken, two_taken, turn_made, turn_quiet}

-- ---- a turn of each kind

-- after a resend: what was oldest is received and an ACK is owed for it, or nothing was unacknowledged and the window is open
pub record Resent (setup : Setup) (v : World) (lead lag : ℕ) (y : End) (a b : EndState) : Type 0 where
  pub after : After setup v lead lag y a b
  pub done : ((a.una < after.near.state.expected) × (after.near.state.ack_owed ≡ true) × (after.far.state.next < after.near.state.expected + 65535)) ⊎ ((after.far.state ≡ a) × (a.next ≤ a.una) × (IsWaiting a → (is_sending a.phase ≡ true) × (0 < a.send_window)))

-- after a send: data at the next number was received and an ACK is owed for it; an ACK that was owed was heard
pub record SentOn (setup : Setup) (v : World) (lead lag : ℕ) (y : End) (a b : EndState) : Type 0 where
  pub after : After setup v lead lag y a b
  pub given : (sends_data a ≡ true) ⊎ (sends_fin a ≡ true) → a.next ≤ b.expected → (a.next < after.near.state.expected) × (after.near.state.ack_owed ≡ true)
  pub heard : a.ack_owed ≡ true → a.next < b.expected + 65535 → after.near.state.una ≡ a.expected

resend_world : (setup : Setup) (w : World) (y : End) → run_from setup w (turn_events setup w (Resends (other y))) ≡ run_from setup w (At y (Take 65535) ∷ At (other y) Resend ∷ delivering y (step setup (step setup w (At y (Take 65535))).world (At (other y) Resend)).outcome)
unfolding turn_events
resend_world setup w A = refl
resend_world setup w B = refl

send_world : (setup : Setup) (w : World) (y : End) → run_from setup w (turn_events setup w (Sends (other y))) ≡ run_from setup w (At y (Take 65535) ∷ At (other y) Send ∷ delivering y (step setup (step setup w (At y (Take 65535))).world (At (other y) Send)).outcome)
unfolding turn_events
send_world setup w A = refl
send_world setup w B = refl

clash : (b : Bool) → b ≡ true → b ≡ false → ⊥
clash b e f = cc

module _ (setup : Setup) (fits : SetupFits setup) (w : World) (lead lag : ℕ) (y : End) (a b : Session) (two : Two setup w lead lag y a b) where
  resend_turn : Resent setup (run_from setup w (turn_events setup w (Resends (other y)))) lead lag y a.state b.state ⊎ Gone setup (run_from setup w (turn_events setup w (Resends (other y)))) y a.state b.state
  resend_turn =
      let x = other y in
      let w1 = (step setup w (At y (Take 65535))).world in
      let one = two_taken setup fits w lead lag y a b two in
      let far1 = far_ends setup w1 lead lag y a (all_taken b) one in
      let far0 = far_ends setup w lead lag y a b two in
      let acked = far0.acked in
      let f = resend (side w1 x).rows (pair_of setup x) (side w1 x).clock in
      let c = resend_case (side w1 x).rows (pair_of setup x) (side w1 x).clock a.state far1.up far1.numbers far1.room (one.up.keyed x) in
      let P : World → Type 0 = λ v. Resent setup v lead lag y a.state b.state ⊎ Gone setup v y a.state b.state in
      let v = run_from setup w (At y (Take 65535) ∷ At x Resend ∷ delivering y (step setup w1 (At x Resend)).outcome) in
      subst P (sym (resend_world setup w y))
      (⊎_elim
      (λ (z : (m : Makes (pair_of setup x) a.state (f a.state)) × (m.out.number ≡ a.state.una) × (0 < takes m.out) × (m.out.state.next ≤ a.state.una + 65534 + takes m.out)).
      let at = z.1 in
      let some = z.2 in
      let near_next = z.3 in
      let goal : P v =
      ⊎_elim
      (λ (r : AfterMade setup v lead lag y a.state b.state z.0.out.number (takes z.0.out) z.0.out.state.next).
      let m = r.moved some (omega arith) in
      let up = m.1 in
      let next = r.next in
      let all : Resent setup v lead lag y a.state b.state = record { after = r.after; done = inl (omega arith, m.0, omega arith) } in inl all)
      (λ (g : Gone setup v y a.state b.state). inr g)
      (turn_made setup fits w lead lag y a b two (At x Resend) Nothing f tt refl z.0) in goal)
      (λ (z : (f a.state ≡ Quiet) × (a.state.next ≤ a.state.una) × (a.state.una < all_end a.state → (is_sending a.state.phase ≡ true) × (0 < a.state.send_window))).
      let r = turn_quiet setup fits w lead lag y a b two (At x Resend) Nothing f tt refl refl z.0 in
      let all : Resent setup v lead lag y a.state b.state = record { after = r.after; done = inr (r.still, z.1, z.2) } in
      let goal : P v = inl all in goal)
      c.which)

  send_turn : SentOn setup (run_from setup w (turn_events setup w (Sends (other y)))) lead lag y a.state b.state ⊎ Gone setup (run_from setup w (turn_events setup w (Sends (other y)))) y a.state b.state
  send_turn =
      let x = other y in
      let w1 = (step setup w (At y (Take 65535))).world in
      let one = two_taken setup fits w lead lag y a b two in
      let far1 = far_ends setup w1 lead lag y a (all_taken b) one in
      let far0 = far_ends setup w lead lag y a b two in
      let sent = far0.sent in
      let f = emit (side w1 x).rows (pair_of setup x) (side w1 x).clock in
      let c = send_case (side w1 x).rows (pair_of setup x) (side w1 x).clock a.state far1.up far1.numbers far1.room (one.up.keyed x) in
      let P : World → Type 0 = λ v. SentOn setup v lead lag y a.state b.state ⊎ Gone setup v y a.state b.state in
      let v = run_from setup w (At y (Take 65535) ∷ At x Send ∷ delivering y (step setup w1 (At x Send)).outcome) in
      subst P (sym (send_world setup w y))
      (⊎_elim
      (λ (z : (m : Makes (pair_of setup x) a.state (f a.state)) × (m.out.number ≡ a.state.next) × ((sends_data a.state ≡ true) ⊎ (sends_fin a.state ≡ true) → 0 < takes m.out)).
      let at = z.1 in
      let goal : P v =
      ⊎_elim
      (λ (r : AfterMade setup v lead lag y a.state b.state z.0.out.number (takes z.0.out) z.0.out.state.next).
      let all : SentOn setup v lead lag y a.state b.state = record {
        after = r.after;
        given = λ t low. let some = z.2 t in let m = r.moved some (omega arith) in let up = m.1 in (omega arith, m.0);
        heard = λ owed below. r.heard (omega arith) (omega arith);
      } in inl all)
      (λ (g : Gone setup v y a.state b.state). inr g)
      (turn_made setup fits w lead lag y a b two (At x Send) Idle f tt refl z.0) in goal)
      (λ (z : (f a.state ≡ Quiet) × (sends_data a.state ≡ false) × (sends_fin a.state ≡ false) × (a.state.ack_owed ≡ false)).
      let r = turn_quiet setup fits w lead lag y a b two (At x Send) Idle f tt refl refl z.0 in
      let all : SentOn setup v lead lag y a.state b.state = record {
        after = r.after;
        given = λ t low. absurd (⊎_elim (λ (d : sends_data a.state ≡ true). clash (sends_data a.state) d z.1) (λ (d : sends_fin a.state ≡ true). clash (sends_fin a.state) d z.2) t);
        heard = λ owed below. absurd (clash a.state.ack_owed owed z.3);
      } in
      let goal : P v = inl all in goal)
      c.which)

resend_by : (setup : Setup) (fits : SetupFits setup) (w : World) (lead lag : ℕ) (x : End) (a b : Session) → Two setup w lead lag (other x) a b
    → Resent setup (run_from setup w (turn_events setup w (Resends x))) lead lag (other x) a.state b.state ⊎ Gone setup (run_from setup w (turn_events setup w (Resends x))) (other x) a.state b.state
resend_by setup fits w lead lag A a b two = resend_turn setup fits w lead lag B a b two
resend_by setup fits w lead lag B a b two = resend_turn setup fits w lead lag A a b two

send_by : (setup : Setup) (fits : SetupFits setup) (w : World) (lead lag : ℕ) (x : End) (a b : Session) → Two setup w lead lag (other x) a b
    → SentOn setup (run_from setup w (turn_events setup w (Sends x))) lead lag (other x) a.state b.state ⊎ Gone setup (run_from setup w (turn_events setup w (Sends x))) (other x) a.state b.state
send_by setup fits w lead lag A a b two = send_turn setup fits w lead lag B a b two
send_by setup fits w lead lag B a b two = send_turn setup fits w lead lag A a b two

-- the ends change places
pub flip : (setup : Setup) (w : World) (lead lag : ℕ) (e : End) (a b : Session) → Two setup w lead lag (other e) a b → Two setup w lead lag (other (other e)) b a
flip setup w lead lag A a b two = record { facts = two.facts; few = two.few; up = two.up; far = two.near; near = two.far }
flip setup w lead lag B a b two = record { facts = two.facts; few = two.few; up = two.up; far = two.near; near = two.far }

pub flip_back : (setup : Setup) (w : World) (lead lag : ℕ) (e : End) (a b : Session) → Two setup w lead lag (other (other e)) a b → Two setup w lead lag (other e) b a
flip_back setup w lead lag A a b two = record { facts = two.facts; few = two.few; up = two.up; far = two.near; near = two.far }
flip_back setup w lead lag B a b two = record { facts = two.facts; few = two.few; up = two.up; far = two.near; near = two.far }

-- ---- the round trip

-- the oldest unacknowledged number of an end has moved if a byte waited, and the sessions are the same
pub record Tripped (setup : Setup) (v : World) (lead lag : ℕ) (e : End) (s t : EndState) : Type 0 where
  pub here : Session
  pub there : Session
  pub two : Two setup v lead lag (other e) here there
  pub same_here : IsSame s here.state
  pub same_there : IsSame t there.state
  pub una_here : s.una ≤ here.state.una
  pub una_there : t.una ≤ there.state.una
  pub moved : IsWaiting s → s.una < here.state.una

all_three : (a b c : Bool) → a ≡ true → b ≡ true → c ≡ true → (a && b && c) ≡ true
all_three a b c e f g = grind arith

all_four : (a b c d : Bool) → a ≡ true → b ≡ true → c ≡ true → d ≡ true → (a && b && c && d) ≡ true
all_four a b c d e f g h = grind arith

-- with the window open and something unsent, data is sent or the FIN
pub sends_so : (s : EndState) → is_sending s.phase ≡ true → s.next < all_end s → s.next < window_end s → (sends_data s ≡ true) ⊎ (sends_fin s ≡ true)
sends_so s phase some wide =
    let two : nat_lt s.next (window_end s) ≡ true = grind (arith, nat_tests) in
    ⊎_elim
    (λ (x : s.next < given_end s).
    let one : nat_lt 0 (unsent s) ≡ true = grind (arith, nat_tests) in
    inl (all_three (is_sending s.phase) (nat_lt 0 (unsent s)) (nat_lt s.next (window_end s)) phase one two))
    (λ (x : given_end s ≤ s.next).
    let none : (unsent s == 0) ≡ true = grind (arith, nat_tests) in
    let on = closing_on s.closing (omega arith) in
    inr (all_four (is_sending s.phase) s.closing (unsent s == 0) (nat_lt s.next (window_end s)) phase on none two))
    (or_lt s.next (given_end s))
  where
    closing_on : (b : Bool) → 0 < bit_of b → b ≡ true
    closing_on true e = refl
    closing_on false e = absurd (omega arith)

-- ---- over

-- the link is finished, with the sessions of these states
pub record Over (setup : Setup) (v : World) (e : End) (s t : EndState) : Type 0 where
  pub over : Finished setup v
  pub here : IsSame s (over.session e).state
  pub there : IsSame t (over.session (other e)).state

pub same_then : (a b c : EndState) → IsSame a b → IsSame b c → IsSame a c
same_then a b c g h = record { isn = h.isn ∙ g.isn; given = h.given ∙ g.given; closing = h.closing ∙ g.closing }

-- the near end of the other's is this end
gone_here : (setup : Setup) (v : World) (e : End) (s t : EndState) → Gone setup v (other (other e)) t s → Over setup v e s t
gone_here setup v A s t g = record { over = g.over; here = g.near; there = g.far }
gone_here setup v B s t g = record { over = g.over; here = g.near; there = g.far }

pub gone_there : (setup : Setup) (v : World) (e : End) (s t : EndState) → Gone setup v (other e) s t → Over setup v e s t
gone_there setup v A s t g = record { over = g.over; here = g.far; there = g.near }
gone_there setup v B s t g = record { over = g.over; here = g.far; there = g.near }

pub over_from : (setup : Setup) (v : World) (e : End) (s t s1 t1 : EndState) → IsSame s s1 → IsSame t t1 → Over setup v e s1 t1 → Over setup v e s t
over_from setup v e s t s1 t1 a b o = record { over = o.over; here = same_then s s1 (o.over.session e).state a o.here; there = same_then t t1 (o.over.session (other e)).state b o.there }

pub over_after : (setup : Setup) (fits : SetupFits setup) (w : World) (e : End) (s t : EndState) → Over setup w e s t → (turn : Turn) → Over setup (run_from setup w (turn_events setup w turn)) e s t
over_after setup fits w e s t o turn =
    let r = over_turn setup fits w o.over turn in
    record { over = r.now; here = same_then s (o.over.session e).state (r.now.session e).state o.here (r.same e); there = same_then t (o.over.session (other e)).state (r.now.session (other e)).state o.there (r.same (other e)) }

pub same_rest : (s t : EndState) → rest t ≡ rest s → IsSame s t
same_rest s t e = record { isn = ap (λ (x : Rest). x.isn) e; given = ap (λ (x : Rest). x.given) e; closing = ap (λ (x : Rest). x.closing) e }

pub same_stays : (s t : EndState) → StaysUp s t → IsSame s t
same_stays s t h = record { isn = h.isn; given = h.given; closing = h.closing }

module _ (setup : Setup) (fits : SetupFits setup) (lead lag : ℕ) (e : End) where
  -- the fourth turn
  pub fourth : (w : World) (s0 t0 : EndState) (s t : Session) → Two setup w lead lag (other e) s t → IsSame s0 s.state → IsSame t0 t.state → s0.una ≤ s.state.una → t0.una ≤ t.state.una
      → (IsWaiting s0 → (s0.una < s.state.una) ⊎ ((s0.una < t.state.expected) × (t.state.ack_owed ≡ true) × (t.state.next < s.state.expected + 65535)))
      → Tripped setup (run_from setup w (turn_events setup w (Sends (other e)))) lead lag e s0 t0 ⊎ Over setup (run_from setup w (turn_events setup w (Sends (other e)))) e s0 t0
  fourth w s0 t0 s t two same_s same_t low_s low_t owes =
      let v = run_from setup w (turn_events setup w (Sends (other e))) in
      ⊎_elim
      (λ (d : SentOn setup v lead lag (other (other e)) t.state s.state).
      let t4 = d.after.far in
      let s4 = d.after.near in
      let una4 = d.after.una in
      let far_una4 : t4.state.una ≡ t.state.una = ap (λ (x : Rest). x.una) d.after.rest_is in
      let all : Tripped setup v lead lag e s0 t0 = record {
        here = s4;
        there = t4;
        two = flip_back setup v lead lag e t4 s4 d.after.two;
        same_here = same_then s0 s.state s4.state same_s (same_stays s.state s4.state d.after.stays);
        same_there = same_then t0 t.state t4.state same_t (same_rest t.state t4.state d.after.rest_is);
        una_here = omega arith;
        una_there = omega arith;
        moved = λ waits.
            ⊎_elim (λ (gone : s0.una < s.state.una). omega arith)
            (λ (z : (s0.una < t.state.expected) × (t.state.ack_owed ≡ true) × (t.state.next < s.state.expected + 65535)).
            let low = z.0 in
            let heard = d.heard z.1 z.2 in
            omega arith)
            (owes waits);
      } in inl all)
      (λ (g : Gone setup v (other (other e)) t.state s.state). inr (over_from setup v e s0 t0 s.state t.state same_s same_t (gone_here setup v e s.state t.state g)))
      (send_by setup fits w lead lag (other e) t s (flip setup w lead lag e s t two))

  -- the third turn and the fourth: what was oldest is received, or the window is open
  pub third : (w : World) (s0 t0 : EndState) (s t : Session) → Two setup w lead lag (other e) s t → IsSame s0 s.state → IsSame t0 t.state → s0.una ≤ s.state.una → t0.una ≤ t.state.una → t.state.next < s.state.expected + 65535
      → (IsWaiting s0 → (s0.una < s.state.una) ⊎ (((s0.una < t.state.expected) × (t.state.ack_owed ≡ true)) ⊎ ((s.state.next ≤ s.state.una) × (is_sending s.state.phase ≡ true) × (0 < s.state.send_window) × (s.state.una ≡ s0.una))))
      → let v3 = run_from setup w (turn_events setup w (Sends e)) in
      Tripped setup (run_from setup v3 (turn_events setup v3 (Sends (other e)))) lead lag e s0 t0 ⊎ Over setup (run_from setup v3 (turn_events setup v3 (Sends (other e)))) e s0 t0
  third w s0 t0 s t two same_s same_t low_s low_t fits_ack owes =
      let v3 = run_from setup w (turn_events setup w (Sends e)) in
      let near = far_ends setup w lead lag (other e) s t two in
      let acked = near.acked in
      let una_low = near.numbers.una in
      ⊎_elim
      (λ (d : SentOn setup v3 lead lag (other e) s.state t.state).
      let s3 = d.after.far in
      let t3 = d.after.near in
      let una3 : s3.state.una ≡ s.state.una = ap (λ (x : Rest). x.una) d.after.rest_is in
      let x3 : s3.state.expected ≡ s.state.expected = ap (λ (x : Rest). x.expected) d.after.rest_is in
      let next3 = d.after.same_next in
      let up3 = d.after.una in
      let up_x = d.after.up in
      fourth v3 s0 t0 s3 t3 d.after.two (same_then s0 s.state s3.state same_s (same_rest s.state s3.state d.after.rest_is)) (same_then t0 t.state t3.state same_t (same_stays t.state t3.state d.after.stays)) (omega arith) (omega arith)
      (λ waits.
      ⊎_elim (λ (gone : s0.una < s.state.una). inl (omega arith))
      (λ (z : ((s0.una < t.state.expected) × (t.state.ack_owed ≡ true)) ⊎ ((s.state.next ≤ s.state.una) × (is_sending s.state.phase ≡ true) × (0 < s.state.send_window) × (s.state.una ≡ s0.una))).
      inr (⊎_elim
      (λ (a : (s0.una < t.state.expected) × (t.state.ack_owed ≡ true)).
      let low = a.0 in
      let all : (s0.una < t3.state.expected) × (t3.state.ack_owed ≡ true) × (t3.state.next < s3.state.expected + 65535) = (omega arith, d.after.owed a.1, omega arith) in all)
      (λ (a : (s.state.next ≤ s.state.una) × (is_sending s.state.phase ≡ true) × (0 < s.state.send_window) × (s.state.una ≡ s0.una)).
      let next_low = a.0 in
      let wide = a.2 in
      let at = a.3 in
      let long : length s.state.given ≡ length s0.given = ap length same_s.given in
      let isn = same_s.isn in
      let bit : bit_of s.state.closing ≡ bit_of s0.closing = ap bit_of same_s.closing in
      let r = d.given (sends_so s.state a.1 (omega arith) (omega arith)) (omega arith) in
      let low = r.0 in
      let all : (s0.una < t3.state.expected) × (t3.state.ack_owed ≡ true) × (t3.state.next < s3.state.expected + 65535) = (omega arith, r.1, omega arith) in all)
      z))
      (owes waits)))
      (λ (g : Gone setup v3 (other e) s.state t.state). inr (over_after setup fits v3 e s0 t0 (over_from setup v3 e s0 t0 s.state t.state same_s same_t (gone_there setup v3 e s.state t.state g)) (Sends (other e))))
      (send_by setup fits w lead lag e s t two)

  -- the second turn, and on
  pub second : (w : World) (s0 t0 : EndState) (s t : Session) → Two setup w lead lag (other e) s t → IsSame s0 s.state → IsSame t0 t.state → s0.una ≤ s.state.una → t0.una ≤ t.state.una → t.state.next < s.state.expected + 65535
      → let v2 = run_from setup w (turn_events setup w (Resends e)) in
      let v3 = run_from setup v2 (turn_events setup v2 (Sends e)) in
      Tripped setup (run_from setup v3 (turn_events setup v3 (Sends (other e)))) lead lag e s0 t0 ⊎ Over setup (run_from setup v3 (turn_events setup v3 (Sends (other e)))) e s0 t0
  second w s0 t0 s t two same_s same_t low_s low_t fits_ack =
      let v2 = run_from setup w (turn_events setup w (Resends e)) in
      let v3 = run_from setup v2 (turn_events setup v2 (Sends e)) in
      let long : length s.state.given ≡ length s0.given = ap length same_s.given in
      let isn = same_s.isn in
      let bit : bit_of s.state.closing ≡ bit_of s0.closing = ap bit_of same_s.closing in
      ⊎_elim
      (λ (d : Resent setup v2 lead lag (other e) s.state t.state).
      let s2 = d.after.far in
      let t2 = d.after.near in
      let una2 : s2.state.una ≡ s.state.una = ap (λ (x : Rest). x.una) d.after.rest_is in
      let x2 : s2.state.expected ≡ s.state.expected = ap (λ (x : Rest). x.expected) d.after.rest_is in
      let next2 = d.after.same_next in
      let up2 = d.after.una in
      third v2 s0 t0 s2 t2 d.after.two (same_then s0 s.state s2.state same_s (same_rest s.state s2.state d.after.rest_is)) (same_then t0 t.state t2.state same_t (same_stays t.state t2.state d.after.stays)) (omega arith) (omega arith) (omega arith)
      (λ waits.
      ⊎_elim (λ (gone : s0.una < s.state.una). inl (omega arith))
      (λ (kept : s.state.una ≤ s0.una).
      inr (⊎_elim
      (λ (z : (s.state.una < t2.state.expected) × (t2.state.ack_owed ≡ true) × (s2.state.next < t2.state.expected + 65535)). let low = z.0 in inl (omega arith, z.1))
      (λ (z : (s2.state ≡ s.state) × (s.state.next ≤ s.state.una) × (IsWaiting s.state → (is_sending s.state.phase ≡ true) × (0 < s.state.send_window))).
      let same = z.0 in
      let shut = z.1 in
      let may = z.2 (omega arith) in
      let window = may.1 in
      let next_is : s2.state.next ≡ s.state.next = ap (λ (x : EndState). x.next) same in
      let window_is : s2.state.send_window ≡ s.state.send_window = ap (λ (x : EndState). x.send_window) same in
      inr (omega arith, ap (λ (x : EndState). is_sending x.phase) same ∙ may.0, omega arith, omega arith))
      d.done))
      (or_lt s0.una s.state.una)))
      (λ (g : Gone setup v2 (other e) s.state t.state).
      inr (over_after setup fits v3 e s0 t0 (over_after setup fits v2 e s0 t0 (over_from setup v2 e s0 t0 s.state t.state same_s same_t (gone_there setup v2 e s.state t.state g)) (Sends e)) (Sends (other e))))
      (resend_by setup fits w lead lag e s t two)

  pub trip : (w : World) (s t : Session) → Two setup w lead lag (other e) s t
      → let v1 = run_from setup w (turn_events setup w (Resends (other e))) in
      let v2 = run_from setup v1 (turn_events setup v1 (Resends e)) in
      let v3 = run_from setup v2 (turn_events setup v2 (Sends e)) in
      Tripped setup (run_from setup v3 (turn_events setup v3 (Sends (other e)))) lead lag e s.state t.state ⊎ Over setup (run_from setup v3 (turn_events setup v3 (Sends (other e)))) e s.state t.state
  trip w s t two =
      let v1 = run_from setup w (turn_events setup w (Resends (other e))) in
      let v2 = run_from setup v1 (turn_events setup v1 (Resends e)) in
      let v3 = run_from setup v2 (turn_events setup v2 (Sends e)) in
      let far0 = near_ends setup w lead lag (other e) s t two in
      let acked = far0.acked in
      ⊎_elim
      (λ (d : Resent setup v1 lead lag (other (other e)) t.state s.state).
      let t1 = d.after.far in
      let s1 = d.after.near in
      let up = d.after.up in
      let una1 = d.after.una in
      let far_una1 : t1.state.una ≡ t.state.una = ap (λ (x : Rest). x.una) d.after.rest_is in
      let fits_ack : t1.state.next < s1.state.expected + 65535 =
      ⊎_elim
      (λ (z : (t.state.una < s1.state.expected) × (s1.state.ack_owed ≡ true) × (t1.state.next < s1.state.expected + 65535)). z.2)
      (λ (z : (t1.state ≡ t.state) × (t.state.next ≤ t.state.una) × (IsWaiting t.state → (is_sending t.state.phase ≡ true) × (0 < t.state.send_window))).
      let same : t1.state.next ≡ t.state.next = ap (λ (x : EndState). x.next) z.0 in
      let low = z.1 in
      omega arith)
      d.done in
      second v1 s.state t.state s1 t1 (flip_back setup v1 lead lag e t1 s1 d.after.two) (same_stays s.state s1.state d.after.stays) (same_rest t.state t1.state d.after.rest_is) una1 (omega arith) fits_ack)
      (λ (g : Gone setup v1 (other (other e)) t.state s.state).
      let o = gone_here setup v1 e s.state t.state g in
      inr (over_after setup fits v3 e s.state t.state (over_after setup fits v2 e s.state t.state (over_after setup fits v1 e s.state t.state o (Resends e)) (Sends e)) (Sends (other e))))
      (resend_by setup fits w lead lag (other e) t s (flip setup w lead lag e s t two))
