-- The facts hold in each state of each run.
use Rattle.std.proofs.Common.{◌≡◌, ℕ, ◌+◌, ◌≤◌, ◌^◌, ◌<◌, ◌==◌, Bool, true, false, List, [], ◌∷◌, length, replicate, Option, Some, None, ◌⊎◌, inl, inr, ⊎_elim, if◌then◌else◌, refl, sym, ap, ◌∙◌, subst, arith}
use Rattle.std.specs.List.{AllByRecursion}
use Rattle.book_base.specs.declared.end.End.{End}
use Rattle.book_base.specs.declared.end.End.TheVariants.{A, B}
use Rattle.book_segments.specs.Segments.{reading}
use Rattle.book_segments.specs.Spelling.{AreBytes}
use Rattle.book_segments.proofs.Fields.{some_is}
use Rattle.book_keys.specs.Lifetimes.{greatest_time}
use Rattle.book_keys.specs.Rows.{Row}
use Rattle.book_keys.specs.Overlaps.{IsValid}
use Rattle.book_keys.specs.Tables.{Adding, AddedAs, TooMany, OverlapsRow, adding, withdrawn}
use Rattle.book_keys.proofs.TableLaws.{valid_added, valid_withdrawn, all_added, all_withdrawn}
use Rattle.book_endpoint.specs.declared.phase.Phase.{Phase}
use Rattle.book_endpoint.specs.declared.phase.Phase.TheVariants.{Listen, SynSent, TimeWait, Closed}
use Rattle.book_endpoint.specs.States.{EndState, beginning, connected, listening, started, is_due, tick_in, tick}
use Rattle.law_link.proofs.Tests.{choose}
use Rattle.law_link.proofs.Ended.{at_end-later}
use Rattle.law_link.proofs.Sound.{Sound, Later, Steady, steady_refl, steady_later, steady_sound, with_phase}
use Rattle.law_link.proofs.Phases.{fin_made, open_now, closed_ok, closed_kept}
use Rattle.law_link.proofs.Whole.{Whole, whole_phase, fresh}
use Rattle.book_endpoint.specs.Verdicts.{Finding}
use Rattle.book_endpoint.specs.Arrivals.{Arrived, arrive}
use Rattle.law_link.proofs.Gains.{Brings, BringsFin, BringsAck, Gains}
use Rattle.book_endpoint.specs.Emissions.{is_silent}
use Rattle.law_link.proofs.ByteLists.{repeated, altered_bytes}
use Rattle.book_base.specs.declared.address.Pair.{Pair}
use Rattle.book_keys.specs.Tables.{row_of_new}
use Rattle.book_link.specs.declared.event.Fixing.{Fixing}
use Rattle.book_link.specs.Alterations.{has_place, altered}
use Rattle.book_link.specs.declared.event.Event.{Event}
use Rattle.book_link.specs.declared.event.Event.TheVariants.{At, Dump}
use Rattle.book_link.specs.declared.event.Action.TheVariants.{Clock, Connect, Listen as Await, Start, Give, Fill, Send, Resend, Deliver, Inject, Alter, Take, Close, Abort, AddRow, Withdraw}
use Rattle.book_link.specs.Worlds.{Setup, pair_of, Session, Made, Came, Happening, Making, Coming, World, side, find, segment_named}
use Rattle.book_link.specs.Steps.{Stepped, with_sessions, with_table, ticked, with_clock, begin, on_live, come, deliver, alter, add_row, withdraw, step, view_of}
use Rattle.book_link.specs.Runs.{empty, run_from, run}
use Rattle.law_link.specs.Laws.{RowFits, SetupFits, EventFits}
use Rattle.law_link.proofs.Invariant.{MadeOk, AllMadeOk, AllSound, AllWhole, AllShown, Distinct, Inv, Grows, wired}
use Rattle.law_link.proofs.Sessions.{grows_refl, grows_head, grows_new, both}
use Rattle.law_link.proofs.Keeping.{put_keeps, Gained, HasPassed, same_gained, ActOk, act_keeps}
use Rattle.law_link.proofs.Calls.{given_ok, took_ok, close_ok, abort_ok}
use Rattle.law_link.proofs.Making.{send_ok, resend_act_ok}
use Rattle.law_link.proofs.Arriving.{Passing, ArrivedOk, arrive_ok}

-- ---- the clock

-- what the clock leaves as it was
pub record Half (s t : EndState) : Type 0 where
  pub steady : Steady s t
  pub whole : Whole s → Whole t
  pub same_received : t.received ≡ s.received
  pub same_fin : t.fin ≡ s.fin
  pub same_una : t.una ≡ s.una
  pub same_taken : t.taken ≡ s.taken
  pub same_expected : t.expected ≡ s.expected

half_refl : (s : EndState) → Half s s
half_refl s = record { steady = steady_refl s; whole = λ h. h; same_received = refl; same_fin = refl; same_una = refl; same_taken = refl; same_expected = refl }

tick_half : (s : EndState) (now : ℕ) (phase : Phase) → Half s (tick_in phase now s)
tick_half s now TimeWait =
    choose (Half s) (is_due s.deadline now) (record s { phase = Closed }) s
    (λ t. record { steady = with_phase s Closed (closed_ok s.phase); whole = whole_phase s Closed (closed_kept s.phase); same_received = refl; same_fin = refl; same_una = refl; same_taken = refl; same_expected = refl })
    (λ t. half_refl s)
tick_half s now _ = half_refl s

pub ticks : (s : EndState) (now : ℕ) → Half s (tick now s)
ticks s now = tick_half s now s.phase

pub tick_later : (s : EndState) (now : ℕ) → Later s (tick now s)
tick_later s now =
    let h = ticks s now in
    let x = h.same_expected in
    let same = ap length h.same_taken in
    steady_later s (tick now s) (omega arith) (λ f e. h.same_fin ∙ e) (omega arith) h.steady

pub ticked_grows : (now : ℕ) (sessions : List Session) → Grows sessions (ticked now sessions)
ticked_grows now [] = grows_refl []
ticked_grows now (s ∷ rest) = grows_head s (record { state = tick now s.state; end_shown = s.end_shown }) rest (tick_later s.state now)

ticked_sound : (now : ℕ) (sessions : List Session) → AllSound sessions → AllSound (ticked now sessions)
ticked_sound now [] h = h
ticked_sound now (s ∷ rest) h = (steady_sound s.state (tick now s.state) (ticks s.state now).steady h.0, h.1)

ticked_whole : (now : ℕ) (sessions : List Session) → AllWhole sessions → AllWhole (ticked now sessions)
ticked_whole now [] h = h
ticked_whole now (s ∷ rest) h = ((ticks s.state now).whole h.0, h.1)

ticked_shown : (now : ℕ) (sessions : List Session) → AllWhole sessions → AllShown sessions → AllShown (ticked now sessions)
ticked_shown now [] whole h = h
ticked_shown now (s ∷ rest) whole h = (λ shown. at_end-later s.state (tick now s.state) whole.0 (tick_later s.state now) (h.0 shown), h.1)

ticked_distinct : (now : ℕ) (sessions : List Session) → Distinct sessions → Distinct (ticked now sessions)
ticked_distinct now [] h = h
ticked_distinct now (s ∷ rest) h = (subst (λ (n : ℕ). find rest n ≡ None) (sym (tick_later s.state now).same_isn) h.0, h.1)

-- ---- a session begins

begun_sound : (pair : Pair) (phase : Phase) (isn : ℕ) → fin_made phase ≡ false → isn < 2 ^ 32 → Sound (beginning pair phase isn)
begun_sound pair phase isn unmade fits =
    record {
      isn_fits = fits;
      peer_isn_fits = λ q e. absurd (cc);
      few = omega arith;
      bytes = λ i. omega arith;
      next_high = omega arith;
      unfinished = λ e. omega arith;
      unknown = λ e. refl;
      closed = λ e. absurd (cc);
      reset = λ e. absurd (cc);
    }

begun_whole : (pair : Pair) (phase : Phase) (isn : ℕ) → open_now phase ≡ false → is_silent phase ≡ true → Whole (beginning pair phase isn)
begun_whole pair phase isn unopened silent =
    record {
      stream = record {
        begun = omega arith;
        took = refl;
        filled = λ p a b. absurd (omega arith);
        low = λ p b e. absurd (cc);
        high = λ p b e. absurd (cc);
        room = omega arith;
        fin_high = λ f e. absurd (cc);
        fin_low = λ f e. absurd (cc);
        fin_none = λ f p e low. refl;
        unknown = λ e. (refl, refl, (λ p. refl));
      };
      missing = refl;
      moved = λ f e at. absurd (cc);
      ends = record { una_low = omega arith; una_high = omega arith; begun = λ e. absurd (cc); known = λ e. absurd (cc); resets = λ e. absurd (cc) };
    }

started_sound : (setup : Setup) (e : End) (isn peer : ℕ) → isn < 2 ^ 32 → peer < 2 ^ 32 → Sound (started (pair_of setup e) isn peer)
started_sound setup e isn peer a b =
    record {
      isn_fits = a;
      peer_isn_fits = λ q e. subst (λ n. n < 2 ^ 32) (some_is peer q e) b;
      few = omega arith;
      bytes = λ i. omega arith;
      next_high = omega arith;
      unfinished = λ e. omega arith;
      unknown = λ e. absurd (cc);
      closed = λ e. absurd (cc);
      reset = λ e. absurd (cc);
    }

started_whole : (setup : Setup) (e : End) (isn peer : ℕ) → Whole (started (pair_of setup e) isn peer)
started_whole setup e isn peer =
    record {
      stream = fresh peer [] (λ p. None) None refl refl (λ p. refl);
      missing = refl;
      moved = λ f e at. absurd (cc);
      ends = record { una_low = omega arith; una_high = omega arith; begun = λ e. omega arith; known = λ e. (peer, refl); resets = λ e. absurd (cc) };
    }

-- ---- the steps

module _ (setup : Setup) (fits : SetupFits setup) where
  come_gained : (e : End) (s : EndState) (r : Arrived) (k : Came) → k.at ≡ e → k.passed ≡ r.passed → ArrivedOk (pair_of setup e) s k.bytes r → Gained setup e s r.state (Some (Coming k))
  come_gained e s r k at passed ok =
      ⊎_elim
      (λ (x : (r.state.received ≡ s.received) × (r.state.fin ≡ s.fin) × (r.state.una ≡ s.una)). same_gained setup e s r.state (Some (Coming k)) x.0 x.1 x.2)
      (λ (x : (p : Finding) × (r.passed ≡ Some p) × (g : Passing (pair_of setup e) s k.bytes p) × Gains p.number g.segment s r.state).
      let p = x.0 in
      let g = x.2 in
      let gains = x.3 in
      let has_passed : HasPassed setup e s (Some (Coming k)) g.segment p.number = (at, p, passed ∙ x.1, g, refl, refl) in
      record {
        bytes = λ q b e2. ⊎_elim (λ (y : s.received q ≡ Some b). inl y) (λ (y : Brings g.segment p.number q b). inr (g.segment, p.number, has_passed, y)) (gains.bytes q b e2);
        fins = λ f e2. ⊎_elim (λ (y : s.fin ≡ Some f). inl y) (λ (y : BringsFin g.segment p.number f). inr (g.segment, p.number, has_passed, y)) (gains.fins f e2);
        acks =
            ⊎_elim (λ (y : r.state.una ≡ s.una). inl y)
            (λ (y : (r.state.una ≤ r.state.isn + 1) ⊎ BringsAck g.segment r.state.una).
            inr (⊎_elim (λ (z : r.state.una ≤ r.state.isn + 1). inl z) (λ (z : BringsAck g.segment r.state.una). inr (g.segment, p.number, has_passed, z)) y)) gains.acks;
      }) ok.gained

  pub come_ok : (e : End) (w : World) (bytes : List ℕ) (s : EndState) → AreBytes bytes → Sound s → Whole s → ActOk setup e s (come bytes (view_of setup w e) s)
  come_ok e w bytes s all h whole =
      let a = arrive (side w e).rows (pair_of setup e) (side w e).clock s (reading bytes) in
      let r = arrive_ok (side w e).rows (pair_of setup e) (side w e).clock s bytes all h whole in
      let k : Came = record { at = e; isn = s.isn; clock = (side w e).clock; bytes = bytes; answer = a.answer; passed = a.passed } in
      record { later = r.later; sound = r.sound; whole = r.whole; shown = λ t. absurd (cc); made = tt; gained = come_gained e s a k refl refl r }

  new_keeps : (w : World) (e : End) (s : EndState) (o : Option Session) → find (side w e).sessions s.isn ≡ o → Sound s → Whole s → Inv setup w → Inv setup (begin w e s o).world
  new_keeps w e s (Some used) is sound whole inv = inv
  new_keeps w e s None is sound whole inv =
      let u : Session = record { state = s; end_shown = false } in
      put_keeps setup w e (with_sessions (side w e) (u ∷ (side w e).sessions)) None inv (grows_new u (side w e).sessions is) tt
      (record { sound = (sound, inv.sound e); whole = (whole, inv.whole e); shown = (λ t. absurd (cc), inv.shown e); distinct = (is, inv.distinct e); rows = inv.rows e; valid = λ t. inv.valid t e; clock = inv.clock e })

  named_if : (w : World) (k m : Made) (o : Option Made) (b : Bool) → MadeOk setup (side w k.maker).sessions k → (o ≡ Some m → MadeOk setup (side w m.maker).sessions m) → (if b then Some k else o) ≡ Some m
      → MadeOk setup (side w m.maker).sessions m
  named_if w k m o true h more e = subst (λ (x : Made). MadeOk setup (side w x.maker).sessions x) (some_is k m e) h
  named_if w k m o false h more e = more e

  -- a segment that is named was made
  pub named_ok : (w : World) (name : ℕ) (history : List Happening) (m : Made) → AllMadeOk setup w history → segment_named name history ≡ Some m → MadeOk setup (side w m.maker).sessions m
  named_ok w name [] m h e = absurd (cc)
  named_ok w name (Coming r ∷ past) m h e = named_ok w name past m h e
  named_ok w name (Making k ∷ past) m h e = named_if w k m (segment_named name past) (k.name == name) h.0 (λ f. named_ok w name past m h.1 f) e

  pub named_bytes : (w : World) (name : ℕ) (m : Made) → Inv setup w → segment_named name w.history ≡ Some m → AreBytes m.bytes
  named_bytes w name m inv e = let ok = named_ok w name w.history m inv.made e in (wired setup ok.session.state m ok.by fits).bytes

  arrives : (w : World) (e : End) (bytes : List ℕ) → AreBytes bytes → Inv setup w → Inv setup (on_live w e (come bytes (view_of setup w e))).world
  arrives w e bytes all inv = act_keeps setup w e (side w e).sessions (come bytes (view_of setup w e)) refl inv (λ s h k. come_ok e w bytes s all h k)

  deliver_keeps : (w : World) (e : End) (o : Option Made) → ((m : Made) → o ≡ Some m → AreBytes m.bytes) → Inv setup w → Inv setup (deliver setup w e o).world
  deliver_keeps w e None all inv = inv
  deliver_keeps w e (Some m) all inv = arrives w e m.bytes (all m refl) inv

  alter_keeps : (w : World) (e : End) (place mask : ℕ) (fixing : Fixing) (o : Option Made) → mask < 256 → ((m : Made) → o ≡ Some m → AreBytes m.bytes) → Inv setup w
      → Inv setup (alter setup w e (record { place = place; mask = mask; fixing = fixing }) o).world
  alter_keeps w e place mask fixing None low all inv = inv
  alter_keeps w e place mask fixing (Some m) low all inv =
      choose (λ (x : Stepped). Inv setup x.world) (has_place m.bytes place) _ _
      (λ t. arrives w e (altered m.bytes (record { place = place; mask = mask; fixing = fixing })) (altered_bytes m.bytes place mask fixing low (record { at = all m refl })).at inv) (λ t. inv)

  add_keeps : (w : World) (e : End) (row : Row) (o : Adding) → adding (side w e).rows row ≡ o → RowFits row → Inv setup w → Inv setup (add_row w e o).world
  add_keeps w e row TooMany is f inv = inv
  add_keeps w e row (OverlapsRow n) is f inv = inv
  add_keeps w e row (AddedAs n rows) is f inv =
      put_keeps setup w e (with_table (side w e) rows) None inv (grows_refl (side w e).sessions) tt
      (record { sound = inv.sound e; whole = inv.whole e; shown = inv.shown e; distinct = inv.distinct e; rows = all_added RowFits (side w e).rows row n rows is (inv.rows e) f; valid = λ t. valid_added (side w e).rows row n rows is (inv.valid t e); clock = inv.clock e })

  withdraw_keeps : (w : World) (e : End) (n : ℕ) (o : Option (List Row)) → withdrawn (side w e).rows n ≡ o → Inv setup w → Inv setup (withdraw w e o).world
  withdraw_keeps w e n None is inv = inv
  withdraw_keeps w e n (Some rows) is inv =
      put_keeps setup w e (with_table (side w e) rows) None inv (grows_refl (side w e).sessions) tt
      (record {
        sound = inv.sound e;
        whole = inv.whole e;
        shown = inv.shown e;
        distinct = inv.distinct e;
        rows = all_withdrawn RowFits (side w e).rows n rows is (λ r f. record { recv_id = f.recv_id; send_id = f.send_id; master = f.master }) (inv.rows e);
        valid = λ t. valid_withdrawn (side w e).rows n rows is (inv.valid t e);
        clock = inv.clock e;
      })

  pub step_keeps : (w : World) (event : Event) → EventFits event → Inv setup w → Inv setup (step setup w event).world
  step_keeps w (At e (Clock seconds)) f inv =
      put_keeps setup w e (with_clock (side w e) seconds) None inv (ticked_grows seconds (side w e).sessions) tt
      (record { sound = ticked_sound seconds (side w e).sessions (inv.sound e); whole = ticked_whole seconds (side w e).sessions (inv.whole e); shown = ticked_shown seconds (side w e).sessions (inv.whole e) (inv.shown e); distinct = ticked_distinct seconds (side w e).sessions (inv.distinct e); rows = inv.rows e; valid = λ t. inv.valid t e; clock = f })
  step_keeps w (At e (Connect isn)) f inv = new_keeps w e (connected (pair_of setup e) isn) (find (side w e).sessions isn) refl (begun_sound (pair_of setup e) SynSent isn refl f) (begun_whole (pair_of setup e) SynSent isn refl refl) inv
  step_keeps w (At e (Await isn)) f inv = new_keeps w e (listening (pair_of setup e) isn) (find (side w e).sessions isn) refl (begun_sound (pair_of setup e) Listen isn refl f) (begun_whole (pair_of setup e) Listen isn refl refl) inv
  step_keeps w (At e (Start isn peer)) f inv = new_keeps w e (started (pair_of setup e) isn peer) (find (side w e).sessions isn) refl (started_sound setup e isn peer f.0 f.1) (started_whole setup e isn peer) inv
  step_keeps w (At e (Give piece)) f inv = act_keeps setup w e (side w e).sessions _ refl inv (λ s h k. given_ok setup e piece s f h k)
  step_keeps w (At e (Fill count byte)) f inv = act_keeps setup w e (side w e).sessions _ refl inv (λ s h k. given_ok setup e (replicate count byte) s (repeated count byte f).at h k)
  step_keeps w (At e Send) f inv = act_keeps setup w e (side w e).sessions _ refl inv (λ s h k. send_ok setup e w (inv.rows e) s h k)
  step_keeps w (At e Resend) f inv = act_keeps setup w e (side w e).sessions _ refl inv (λ s h k. resend_act_ok setup e w (inv.rows e) s h k)
  step_keeps w (At e (Deliver name)) f inv = deliver_keeps w e (segment_named name w.history) (λ m is. named_bytes w name m inv is) inv
  step_keeps w (At e (Inject bytes)) f inv = arrives w e bytes f inv
  step_keeps w (At e (Alter name place mask fixing)) f inv = alter_keeps w e place mask fixing (segment_named name w.history) f (λ m is. named_bytes w name m inv is) inv
  step_keeps w (At e (Take count)) f inv = act_keeps setup w e (side w e).sessions _ refl inv (λ s h k. took_ok setup e count s h k)
  step_keeps w (At e Close) f inv = act_keeps setup w e (side w e).sessions _ refl inv (λ s h k. close_ok setup e s s.phase h k)
  step_keeps w (At e Abort) f inv = act_keeps setup w e (side w e).sessions _ refl inv (λ s h k. abort_ok setup e s h k)
  step_keeps w (At e (AddRow row)) f inv = add_keeps w e (row_of_new row) (adding (side w e).rows (row_of_new row)) refl f inv
  step_keeps w (At e (Withdraw n)) f inv = withdraw_keeps w e n (withdrawn (side w e).rows n) refl inv
  step_keeps w (Dump name) f inv = inv

  run_keeps : (w : World) (events : List Event) → AllByRecursion EventFits events → Inv setup w → Inv setup (run_from setup w events)
  run_keeps w [] f inv = inv
  run_keeps w (event ∷ events) f inv = run_keeps (step setup w event).world events f.1 (step_keeps w event f.0 inv)

  pub begins_inv : Inv setup (empty setup)
  begins_inv =
      record {
        made = tt;
        sound = both (λ e. AllSound (side (empty setup) e).sessions) tt tt;
        whole = both (λ e. AllWhole (side (empty setup) e).sessions) tt tt;
        shown = both (λ e. AllShown (side (empty setup) e).sessions) tt tt;
        distinct = both (λ e. Distinct (side (empty setup) e).sessions) tt tt;
        rows = both (λ e. AllByRecursion RowFits (side (empty setup) e).rows) (fits.rows A) (fits.rows B);
        valid = λ t. both (λ e. IsValid (side (empty setup) e).rows) (t.valid A) (t.valid B);
        clock = both (λ e. (side (empty setup) e).clock ≤ greatest_time) (omega arith) (omega arith);
      }

  pub run_inv : (events : List Event) → AllByRecursion EventFits events → Inv setup (run setup events)
  run_inv events f = run_keeps (empty setup) events f begins_inv
