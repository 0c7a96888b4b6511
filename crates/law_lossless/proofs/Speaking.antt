-- An end speaks to one that is in step with it.
use Rattle.std.proofs.Common.{◌≡◌, ℕ, ◌<◌, ◌≤◌, true, false, ◌∷◌, ◌⊎◌, inl, inr, ⊎_elim, refl, sym, ap, subst, arith}
use Rattle.book_base.specs.declared.end.End.{End}
use Rattle.book_base.specs.declared.end.End.TheVariants.{A, B}
use Rattle.book_segments.specs.Segments.{bit_of}
use Rattle.book_endpoint.specs.declared.phase.Phase.{Phase}
use Rattle.book_endpoint.specs.declared.phase.Phase.TheVariants.{Listen, SynSent, SynReceived, Established, FinWait1, FinWait2, CloseWait, Closing, LastAck, TimeWait, Closed}
use Rattle.book_endpoint.specs.States.{EndState, window, take_out}
use Rattle.book_endpoint.specs.Emissions.{Quiet, emit, is_sending, sends_data, sends_fin}
use Rattle.book_link.specs.declared.event.Event.TheVariants.{At}
use Rattle.book_link.specs.declared.event.Action.TheVariants.{Send, Take}
use Rattle.book_link.specs.Outcomes.{Idle}
use Rattle.book_link.specs.Worlds.{other, Setup, pair_of, Session, World, side}
use Rattle.book_link.specs.Steps.{step, took}
use Rattle.book_link.specs.Runs.{run_from}
use Rattle.law_link.specs.Laws.{SetupFits}
use Rattle.law_link.proofs.Phases.{fin_made}
use Rattle.law_link.proofs.Stream.{or_lt}
use Rattle.law_progress.specs.Progress.{delivering, turn_events, is_open, all_end, IsSame}
use Rattle.law_progress.proofs.Acting.{StaysUp}
use Rattle.law_progress.proofs.Facts.{Ends}
use Rattle.law_progress.proofs.Kept.{facts_step}
use Rattle.law_progress.proofs.Making.{Rest, takes, Numbers, Makes, not_both, send_case}
use Rattle.law_progress.proofs.Trips.{Over, sends_so, same_rest, same_stays, gone_there}
use Rattle.law_progress.proofs.Turning.{Two, far_ends, near_lives, AfterMade, AfterQuiet, Gone, all_taken, two_taken, two_far, took_window, or_owed, turn_made, turn_quiet}
use Rattle.law_lossless.specs.Lossless.{speaking}
use Rattle.law_lossless.proofs.Advancing.{makes_next}
use Rattle.law_lossless.proofs.Nearing.{near_quiet, near_made}
use Rattle.law_lossless.proofs.Windows.{IsTold}

-- ---- in step

-- nothing that s sent is on the way to t
pub record Step (s t : EndState) : Type 0 where
  pub received : s.next ≤ t.expected
  pub acknowledged : (s.next ≤ s.una) ⊎ (t.ack_owed ≡ true)
  pub window : 0 < s.send_window

-- an end spoke, of state a, to one of state b: both are in step, all of b is acknowledged, and where all of a was, a number more was sent, if one was left
pub record Spoken (setup : Setup) (v : World) (lead lag : ℕ) (y : End) (a b : EndState) : Type 0 where
  pub far : Session
  pub near : Session
  pub two : Two setup v lead lag y far near
  pub same_far : IsSame a far.state
  pub same_near : IsSame b near.state
  pub far_step : Step far.state near.state
  pub near_step : Step near.state far.state
  pub acked : near.state.next ≤ near.state.una
  pub una_far : far.state.una ≡ a.una
  pub una_near : b.una ≤ near.state.una
  pub next_far : a.next ≤ far.state.next
  pub next_near : near.state.next ≡ b.next
  pub gained : a.next ≤ a.una → a.next < all_end a → a.next < far.state.next

-- ---- phases

made_or_sends : (phase : Phase) → is_open phase ≡ true → (is_sending phase ≡ true) ⊎ (fin_made phase ≡ true)
made_or_sends Listen o = absurd (cc)
made_or_sends SynSent o = absurd (cc)
made_or_sends SynReceived o = absurd (cc)
made_or_sends Closed o = absurd (cc)
made_or_sends Established o = inl refl
made_or_sends CloseWait o = inl refl
made_or_sends FinWait1 o = inr refl
made_or_sends Closing o = inr refl
made_or_sends LastAck o = inr refl
made_or_sends FinWait2 o = inr refl
made_or_sends TimeWait o = inr refl

-- an end that has numbers left to send is in a phase that sends
sends_left : (s : EndState) → is_open s.phase ≡ true → Numbers s → s.next < all_end s → is_sending s.phase ≡ true
sends_left s up h left =
    ⊎_elim (λ (x : is_sending s.phase ≡ true). x)
    (λ (x : fin_made s.phase ≡ true). let g = h.gone x in let top = g.0 in let one : bit_of s.closing ≡ 1 = ap bit_of g.1 in absurd (omega arith))
    (made_or_sends s.phase up)

-- with all acknowledged, the window open and a number left, something is sent
may_send : (s : EndState) → is_open s.phase ≡ true → Numbers s → 0 < s.send_window → s.next ≤ s.una → s.next < all_end s → (sends_data s ≡ true) ⊎ (sends_fin s ≡ true)
may_send s up h wide all left = sends_so s (sends_left s up h left) left (omega arith)

-- ---- the worlds

speaking_world : (setup : Setup) (w : World) (y : End) → let w0 = (step setup w (At (other y) (Take 65535))).world in
    run_from setup w (speaking setup w (other y)) ≡ run_from setup w0 (At y (Take 65535) ∷ At (other y) Send ∷ delivering y (step setup (step setup w0 (At y (Take 65535))).world (At (other y) Send)).outcome)
unfolding speaking turn_events
speaking_world setup w A = refl
speaking_world setup w B = refl

-- ---- both took all, and the far end is to send

module _ (setup : Setup) (fits : SetupFits setup) (w : World) (lead lag : ℕ) (y : End) (a b : Session) (two : Two setup w lead lag y a b) (here : Step a.state b.state) (there : Step b.state a.state) where
  ends : Ends a.state b.state
  ends = far_ends setup w lead lag y a b two

  abbrev w0 : World
  w0 = (step setup w (At (other y) (Take 65535))).world

  two0 : Two setup w0 lead lag y (all_taken a) b
  two0 =
      let stays : StaysUp a.state (take_out 65535 a.state) = record { opened = ends.up.phase; isn = refl; peer = refl; closing = refl; given = refl } in
      two_far setup w lead lag y a b two (took 65535) (took 65535 a.state) refl stays two.up.unforged (facts_step setup fits w (At (other y) (Take 65535)) tt two.facts)

  abbrev w1 : World
  w1 = (step setup w0 (At y (Take 65535))).world

  two1 : Two setup w1 lead lag y (all_taken a) (all_taken b)
  two1 = two_taken setup fits w0 lead lag y (all_taken a) b two0

  far1 : Ends (all_taken a).state (all_taken b).state
  far1 = far_ends setup w1 lead lag y (all_taken a) (all_taken b) two1

  -- the world once the far end has sent, and that has come
  abbrev v : World
  v = run_from setup w0 (At y (Take 65535) ∷ At (other y) Send ∷ delivering y (step setup w1 (At (other y) Send)).outcome)

  -- the window that is told
  wide : window (all_taken a).state ≡ 65535
  wide = took_window a.state ends.whole

  told_open : (t : EndState) → IsTold (all_taken b).state t (window (all_taken a).state) → 0 < t.send_window
  told_open t told =
      let old = there.window in
      let full = wide in
      ⊎_elim (λ (e : t.send_window ≡ b.state.send_window). omega arith) (λ (e : t.send_window ≡ window (all_taken a).state). omega arith) told

  spoke_made : (m : Makes (pair_of setup (other y)) (all_taken a).state (emit (side w1 (other y)).rows (pair_of setup (other y)) (side w1 (other y)).clock (all_taken a).state)) → m.out.number ≡ a.state.next → ((sends_data (all_taken a).state ≡ true) ⊎ (sends_fin (all_taken a).state ≡ true) → 0 < takes m.out)
      → AfterMade setup v lead lag y (all_taken a).state b.state m.out.number (takes m.out) m.out.state.next → Spoken setup v lead lag y a.state b.state
  spoke_made m at some r =
      let x = other y in
      let far = r.after.far in
      let near = r.after.near in
      let low = ends.numbers.low in
      let una = ends.numbers.una in
      let sent = ends.sent in
      let received = here.received in
      let back = there.received in
      let next_is = makes_next (side w1 x).rows (pair_of setup x) (side w1 x).clock (all_taken a).state (omega arith) m in
      let next = r.next in
      let una_is : far.state.una ≡ a.state.una = ap (λ (k : Rest). k.una) r.after.rest_is in
      let expected_is : far.state.expected ≡ a.state.expected = ap (λ (k : Rest). k.expected) r.after.rest_is in
      let window_is : far.state.send_window ≡ a.state.send_window = ap (λ (k : Rest). k.send_window) r.after.rest_is in
      let open_a = here.window in
      let heard : near.state.una ≡ a.state.expected = r.heard (omega arith) (omega arith) in
      let same_next = r.after.same_next in
      let up = r.after.up in
      let up_una = r.after.una in
      let alike = same_rest (all_taken a).state far.state r.after.rest_is in
      let more = r.after.next in
      let told = near_made setup fits w1 lead lag y (all_taken a) (all_taken b) two1 (At x Send) Idle (emit (side w1 x).rows (pair_of setup x) (side w1 x).clock) tt refl m near (near_lives setup v lead lag y far near r.after.two) in
      let far_step : Step far.state near.state =
      ⊎_elim
      (λ (z : 0 < takes m.out). let h = r.moved z (omega arith) in let top = h.1 in record { received = omega arith; acknowledged = inr h.0; window = omega arith })
      (λ (z : takes m.out ≤ 0).
      record {
        received = omega arith;
        acknowledged = ⊎_elim (λ (e : a.state.next ≤ a.state.una). inl (omega arith)) (λ (e : b.state.ack_owed ≡ true). inr (r.after.owed e)) here.acknowledged;
        window = omega arith;
      })
      (or_lt 0 (takes m.out)) in
      record {
        far = far;
        near = near;
        two = r.after.two;
        same_far = record { isn = alike.isn; given = alike.given; closing = alike.closing };
        same_near = same_stays b.state near.state r.after.stays;
        far_step = far_step;
        near_step = record { received = omega arith; acknowledged = inl (omega arith); window = told_open near.state told };
        acked = omega arith;
        una_far = una_is;
        una_near = up_una;
        next_far = more;
        next_near = same_next;
        gained = λ all left. let z = some (may_send (all_taken a).state far1.up.phase far1.numbers open_a all left) in omega arith;
      }

  spoke_quiet : emit (side w1 (other y)).rows (pair_of setup (other y)) (side w1 (other y)).clock (all_taken a).state ≡ Quiet → sends_data (all_taken a).state ≡ false → sends_fin (all_taken a).state ≡ false → (all_taken a).state.ack_owed ≡ false
      → AfterQuiet setup v lead lag y (all_taken a).state b.state → Spoken setup v lead lag y a.state b.state
  spoke_quiet quiet no_data no_fin unowed r =
      let x = other y in
      let far = r.after.far in
      let near = r.after.near in
      let received = here.received in
      let back = there.received in
      let next_is : far.state.next ≡ a.state.next = ap (λ (k : EndState). k.next) r.still in
      let una_is : far.state.una ≡ a.state.una = ap (λ (k : Rest). k.una) r.after.rest_is in
      let expected_is : far.state.expected ≡ a.state.expected = ap (λ (k : Rest). k.expected) r.after.rest_is in
      let window_is : far.state.send_window ≡ a.state.send_window = ap (λ (k : Rest). k.send_window) r.after.rest_is in
      let open_a = here.window in
      let open_b = there.window in
      let same_next = r.after.same_next in
      let up = r.after.up in
      let up_una = r.after.una in
      let alike = same_rest (all_taken a).state far.state r.after.rest_is in
      let near_is : near ≡ all_taken b =
      near_quiet setup fits w1 lead lag y (all_taken a) (all_taken b) two1 (At x Send) Idle (emit (side w1 x).rows (pair_of setup x) (side w1 x).clock) refl refl quiet near (near_lives setup v lead lag y far near r.after.two) in
      let near_window : near.state.send_window ≡ b.state.send_window = ap (λ (k : Session). k.state.send_window) near_is in
      let all_b : b.state.next ≤ b.state.una =
      ⊎_elim (λ (e : b.state.next ≤ b.state.una). e)
      (λ (e : a.state.ack_owed ≡ true). absurd (not_both (all_taken a).state.ack_owed (or_owed a.state.ack_owed _ e) unowed))
      there.acknowledged in
      record {
        far = far;
        near = near;
        two = r.after.two;
        same_far = record { isn = alike.isn; given = alike.given; closing = alike.closing };
        same_near = same_stays b.state near.state r.after.stays;
        far_step = record {
          received = omega arith;
          acknowledged = ⊎_elim (λ (e : a.state.next ≤ a.state.una). inl (omega arith)) (λ (e : b.state.ack_owed ≡ true). inr (r.after.owed e)) here.acknowledged;
          window = omega arith;
        };
        near_step = record { received = omega arith; acknowledged = inl (omega arith); window = omega arith };
        acked = omega arith;
        una_far = una_is;
        una_near = up_una;
        next_far = omega arith;
        next_near = same_next;
        gained = λ all left.
            absurd (⊎_elim (λ (e : sends_data (all_taken a).state ≡ true). not_both (sends_data (all_taken a).state) e no_data) (λ (e : sends_fin (all_taken a).state ≡ true). not_both (sends_fin (all_taken a).state) e no_fin)
            (may_send (all_taken a).state far1.up.phase far1.numbers open_a all left));
      }

  speaks_far : Spoken setup (run_from setup w (speaking setup w (other y))) lead lag y a.state b.state ⊎ Gone setup (run_from setup w (speaking setup w (other y))) y a.state b.state
  speaks_far =
      let x = other y in
      let s = (all_taken a).state in
      let f = emit (side w1 x).rows (pair_of setup x) (side w1 x).clock in
      let c = send_case (side w1 x).rows (pair_of setup x) (side w1 x).clock s far1.up far1.numbers far1.room (two1.up.keyed x) in
      let P : World → Type 0 = λ u. Spoken setup u lead lag y a.state b.state ⊎ Gone setup u y a.state b.state in
      subst P (sym (speaking_world setup w y))
      (⊎_elim
      (λ (z : (m : Makes (pair_of setup x) s (f s)) × (m.out.number ≡ s.next) × ((sends_data s ≡ true) ⊎ (sends_fin s ≡ true) → 0 < takes m.out)).
      let goal : P v =
      ⊎_elim (λ (r : AfterMade setup v lead lag y s b.state z.0.out.number (takes z.0.out) z.0.out.state.next). inl (spoke_made z.0 z.1 z.2 r))
      (λ (g : Gone setup v y s b.state). let same : Gone setup v y a.state b.state = record { over = g.over; far = record { isn = g.far.isn; given = g.far.given; closing = g.far.closing }; near = g.near } in inr same)
      (turn_made setup fits w0 lead lag y (all_taken a) b two0 (At x Send) Idle f tt refl z.0) in goal)
      (λ (z : (f s ≡ Quiet) × (sends_data s ≡ false) × (sends_fin s ≡ false) × (s.ack_owed ≡ false)).
      let goal : P v = inl (spoke_quiet z.0 z.1 z.2 z.3 (turn_quiet setup fits w0 lead lag y (all_taken a) b two0 (At x Send) Idle f tt refl refl z.0)) in goal)
      c.which)

-- ---- either end speaks

-- what holds once an end of state a spoke to one of state b, or often did
abbrev pub Spoke : Setup → World → ℕ → ℕ → End → EndState → EndState → Type 0
Spoke setup v lead lag e a b = Spoken setup v lead lag (other e) a b ⊎ Over setup v e a b

pub speaks : (setup : Setup) (fits : SetupFits setup) (w : World) (lead lag : ℕ) (e : End) (a b : Session) → Two setup w lead lag (other e) a b → Step a.state b.state → Step b.state a.state
    → Spoke setup (run_from setup w (speaking setup w e)) lead lag e a.state b.state
speaks setup fits w lead lag A a b two here there =
    let v = run_from setup w (speaking setup w A) in
    ⊎_elim (λ (r : Spoken setup v lead lag B a.state b.state). inl r) (λ (g : Gone setup v B a.state b.state). inr (gone_there setup v A a.state b.state g)) (speaks_far setup fits w lead lag B a b two here there)
speaks setup fits w lead lag B a b two here there =
    let v = run_from setup w (speaking setup w B) in
    ⊎_elim (λ (r : Spoken setup v lead lag A a.state b.state). inl r) (λ (g : Gone setup v A a.state b.state). inr (gone_there setup v B a.state b.state g)) (speaks_far setup fits w lead lag A a b two here there)
