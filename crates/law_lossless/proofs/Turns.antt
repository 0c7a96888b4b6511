-- A turn of each kind: what a resend leaves, and what a send leaves, as in a round trip.
use Rattle.std.proofs.Common.{◌≡◌, ℕ, ◌+◌, ◌<◌, ◌≤◌, Bool, true, false, ◌∷◌, ◌⊎◌, inl, inr, ⊎_elim, refl, sym, subst, arith}
use Rattle.book_base.specs.declared.end.End.{End}
use Rattle.book_base.specs.declared.end.End.TheVariants.{A, B}
use Rattle.book_endpoint.specs.Emissions.{Quiet, emit, resend, is_sending, sends_data, sends_fin}
use Rattle.book_link.specs.declared.event.Event.TheVariants.{At}
use Rattle.book_link.specs.declared.event.Action.TheVariants.{Send, Resend, Take}
use Rattle.book_link.specs.Outcomes.{Idle, Nothing}
use Rattle.book_link.specs.Worlds.{other, Setup, pair_of, Session, World, side}
use Rattle.book_link.specs.Steps.{step}
use Rattle.book_link.specs.Runs.{run_from}
use Rattle.law_link.specs.Laws.{SetupFits}
use Rattle.law_progress.specs.Progress.{Sends, Resends, delivering, turn_events, all_end}
use Rattle.law_progress.proofs.Making.{takes, Makes, send_case, resend_case}
use Rattle.law_progress.proofs.Trips.{Resent, SentOn}
use Rattle.law_progress.proofs.Turning.{Two, far_ends, AfterMade, Gone, all_taken, two_taken, turn_made, turn_quiet}

resend_world : (setup : Setup) (w : World) (y : End) → run_from setup w (turn_events setup w (Resends (other y))) ≡ run_from setup w (At y (Take 65535) ∷ At (other y) Resend ∷ delivering y (step setup (step setup w (At y (Take 65535))).world (At (other y) Resend)).outcome)
unfolding turn_events
resend_world setup w A = refl
resend_world setup w B = refl

send_world : (setup : Setup) (w : World) (y : End) → run_from setup w (turn_events setup w (Sends (other y))) ≡ run_from setup w (At y (Take 65535) ∷ At (other y) Send ∷ delivering y (step setup (step setup w (At y (Take 65535))).world (At (other y) Send)).outcome)
unfolding turn_events
send_world setup w A = refl
send_world setup w B = refl

clash : (b : Bool) → b ≡ true → b ≡ false → ⊥
clash b e f = cc

module _ (setup : Setup) (fits : SetupFits setup) (w : World) (lead lag : ℕ) (y : End) (a b : Session) (two : Two setup w lead lag y a b) where
  resend_turn : Resent setup (run_from setup w (turn_events setup w (Resends (other y)))) lead lag y a.state b.state ⊎ Gone setup (run_from setup w (turn_events setup w (Resends (other y)))) y a.state b.state
  resend_turn =
      let x = other y in
      let w1 = (step setup w (At y (Take 65535))).world in
      let one = two_taken setup fits w lead lag y a b two in
      let far1 = far_ends setup w1 lead lag y a (all_taken b) one in
      let far0 = far_ends setup w lead lag y a b two in
      let acked = far0.acked in
      let f = resend (side w1 x).rows (pair_of setup x) (side w1 x).clock in
      let c = resend_case (side w1 x).rows (pair_of setup x) (side w1 x).clock a.state far1.up far1.numbers far1.room (one.up.keyed x) in
      let P : World → Type 0 = λ v. Resent setup v lead lag y a.state b.state ⊎ Gone setup v y a.state b.state in
      let v = run_from setup w (At y (Take 65535) ∷ At x Resend ∷ delivering y (step setup w1 (At x Resend)).outcome) in
      subst P (sym (resend_world setup w y))
      (⊎_elim
      (λ (z : (m : Makes (pair_of setup x) a.state (f a.state)) × (m.out.number ≡ a.state.una) × (0 < takes m.out) × (m.out.state.next ≤ a.state.una + 65534 + takes m.out)).
      let at = z.1 in
      let some = z.2 in
      let near_next = z.3 in
      let goal : P v =
      ⊎_elim
      (λ (r : AfterMade setup v lead lag y a.state b.state z.0.out.number (takes z.0.out) z.0.out.state.next).
      let m = r.moved some (omega arith) in
      let up = m.1 in
      let next = r.next in
      let all : Resent setup v lead lag y a.state b.state = record { after = r.after; done = inl (omega arith, m.0, omega arith) } in inl all)
      (λ (g : Gone setup v y a.state b.state). inr g)
      (turn_made setup fits w lead lag y a b two (At x Resend) Nothing f tt refl z.0) in goal)
      (λ (z : (f a.state ≡ Quiet) × (a.state.next ≤ a.state.una) × (a.state.una < all_end a.state → (is_sending a.state.phase ≡ true) × (0 < a.state.send_window))).
      let r = turn_quiet setup fits w lead lag y a b two (At x Resend) Nothing f tt refl refl z.0 in
      let all : Resent setup v lead lag y a.state b.state = record { after = r.after; done = inr (r.still, z.1, z.2) } in
      let goal : P v = inl all in goal)
      c.which)

  send_turn : SentOn setup (run_from setup w (turn_events setup w (Sends (other y)))) lead lag y a.state b.state ⊎ Gone setup (run_from setup w (turn_events setup w (Sends (other y)))) y a.state b.state
  send_turn =
      let x = other y in
      let w1 = (step setup w (At y (Take 65535))).world in
      let one = two_taken setup fits w lead lag y a b two in
      let far1 = far_ends setup w1 lead lag y a (all_taken b) one in
      let far0 = far_ends setup w lead lag y a b two in
      let sent = far0.sent in
      let f = emit (side w1 x).rows (pair_of setup x) (side w1 x).clock in
      let c = send_case (side w1 x).rows (pair_of setup x) (side w1 x).clock a.state far1.up far1.numbers far1.room (one.up.keyed x) in
      let P : World → Type 0 = λ v. SentOn setup v lead lag y a.state b.state ⊎ Gone setup v y a.state b.state in
      let v = run_from setup w (At y (Take 65535) ∷ At x Send ∷ delivering y (step setup w1 (At x Send)).outcome) in
      subst P (sym (send_world setup w y))
      (⊎_elim
      (λ (z : (m : Makes (pair_of setup x) a.state (f a.state)) × (m.out.number ≡ a.state.next) × ((sends_data a.state ≡ true) ⊎ (sends_fin a.state ≡ true) → 0 < takes m.out)).
      let at = z.1 in
      let goal : P v =
      ⊎_elim
      (λ (r : AfterMade setup v lead lag y a.state b.state z.0.out.number (takes z.0.out) z.0.out.state.next).
      let all : SentOn setup v lead lag y a.state b.state = record {
        after = r.after;
        given = λ t low. let some = z.2 t in let m = r.moved some (omega arith) in let up = m.1 in (omega arith, m.0);
        heard = λ owed below. r.heard (omega arith) (omega arith);
      } in inl all)
      (λ (g : Gone setup v y a.state b.state). inr g)
      (turn_made setup fits w lead lag y a b two (At x Send) Idle f tt refl z.0) in goal)
      (λ (z : (f a.state ≡ Quiet) × (sends_data a.state ≡ false) × (sends_fin a.state ≡ false) × (a.state.ack_owed ≡ false)).
      let r = turn_quiet setup fits w lead lag y a b two (At x Send) Idle f tt refl refl z.0 in
      let all : SentOn setup v lead lag y a.state b.state = record {
        after = r.after;
        given = λ t low. absurd (⊎_elim (λ (d : sends_data a.state ≡ true). clash (sends_data a.state) d z.1) (λ (d : sends_fin a.state ≡ true). clash (sends_fin a.state) d z.2) t);
        heard = λ owed below. absurd (clash a.state.ack_owed owed z.3);
      } in
      let goal : P v = inl all in goal)
      c.which)

pub resend_by : (setup : Setup) (fits : SetupFits setup) (w : World) (lead lag : ℕ) (x : End) (a b : Session) → Two setup w lead lag (other x) a b
    → Resent setup (run_from setup w (turn_events setup w (Resends x))) lead lag (other x) a.state b.state ⊎ Gone setup (run_from setup w (turn_events setup w (Resends x))) (other x) a.state b.state
resend_by setup fits w lead lag A a b two = resend_turn setup fits w lead lag B a b two
resend_by setup fits w lead lag B a b two = resend_turn setup fits w lead lag A a b two

pub send_by : (setup : Setup) (fits : SetupFits setup) (w : World) (lead lag : ℕ) (x : End) (a b : Session) → Two setup w lead lag (other x) a b
    → SentOn setup (run_from setup w (turn_events setup w (Sends x))) lead lag (other x) a.state b.state ⊎ Gone setup (run_from setup w (turn_events setup w (Sends x))) (other x) a.state b.state
send_by setup fits w lead lag A a b two = send_turn setup fits w lead lag B a b two
send_by setup fits w lead lag B a b two = send_turn setup fits w lead lag A a b two
