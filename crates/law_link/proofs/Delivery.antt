-- Received was given, and acknowledged was received: each step keeps it.
use Rattle.std.proofs.Common.{◌≡◌, ℕ, ◌+◌, ◌≤◌, ◌^◌, ◌<◌, Bool, false, List, [], ◌∷◌, length, replicate, Option, Some, None, inl, refl, sym, ap, ◌∙◌, subst, arith}
use Rattle.std.specs.List.{AllByRecursion}
use Rattle.book_base.specs.declared.end.End.{End}
use Rattle.book_segments.specs.Spelling.{AreBytes}
use Rattle.book_keys.specs.Rows.{Row}
use Rattle.book_keys.specs.Tables.{Adding, AddedAs, TooMany, OverlapsRow, adding, withdrawn}
use Rattle.book_endpoint.specs.States.{EndState, connected, listening, started, tick}
use Rattle.law_link.proofs.Tests.{choose}
use Rattle.law_link.proofs.Sound.{Sound, steady_sound}
use Rattle.law_link.proofs.Whole.{Whole}
use Rattle.book_keys.specs.Tables.{row_of_new}
use Rattle.law_link.proofs.ByteLists.{altered_bytes, repeated}
use Rattle.book_link.specs.declared.event.Fixing.{Fixing}
use Rattle.book_link.specs.Alterations.{has_place, altered}
use Rattle.book_link.specs.declared.event.Event.{Event}
use Rattle.book_link.specs.declared.event.Event.TheVariants.{At, Dump}
use Rattle.book_link.specs.declared.event.Action.TheVariants.{Clock, Connect, Listen as Await, Start, Give, Fill, Send, Resend, Deliver, Inject, Alter, Take, Close, Abort, AddRow, Withdraw}
use Rattle.law_link.specs.Laws.{SetupFits, EventFits}
use Rattle.book_link.specs.Worlds.{other, Setup, pair_of, Session, LinkSide, Made, World, side, find, segment_named}
use Rattle.book_link.specs.Steps.{Stepped, Act, put, with_sessions, with_table, ticked, with_clock, acted, act_on, begin, on_live, come, deliver, alter, add_row, withdraw, step, view_of}
use Rattle.book_link.specs.Runs.{empty, run_from, run}
use Rattle.law_link.proofs.Invariant.{AllSound, AllWhole, Inv}
use Rattle.law_link.proofs.Sessions.{both, grows_refl, grows_head, grows_new}
use Rattle.law_link.proofs.Keeping.{same_gained, ActOk}
use Rattle.law_link.proofs.Calls.{given_ok, took_ok, close_ok, abort_ok}
use Rattle.law_link.proofs.Making.{send_ok, resend_act_ok}
use Rattle.law_link.proofs.Running.{ticks, tick_later, come_ok, named_bytes, step_keeps, begins_inv}
use Rattle.law_link.proofs.Received.{AllReceived, AllAcked, Heard, put_heard, head_heard}

-- ---- each step

module _ (setup : Setup) (fits : SetupFits setup) where
  act_heard : (w : World) (e : End) (sessions : List Session) (call : EndState → Act) → (side w e).sessions ≡ sessions → Inv setup w → ((s : EndState) → Sound s → Whole s → ActOk setup e s (call s))
      → Heard w → Heard (act_on w e sessions call).world
  act_heard w e [] call is inv ok h = h
  act_heard w e (s ∷ rest) call is inv ok h =
      let sound : AllSound (s ∷ rest) = subst AllSound is (inv.sound e) in
      let whole : AllWhole (s ∷ rest) = subst AllWhole is (inv.whole e) in
      let act = call s.state in
      let done = ok s.state sound.0 whole.0 in
      let u = acted s act in
      head_heard setup fits w e s rest (with_sessions (side w e) (u ∷ rest)) u act.happened is refl inv sound.0 done.sound done.whole done.later done.gained (grows_head s u rest done.later) h

  quiet_heard : (w : World) (e : End) (now : LinkSide) → now.sessions ≡ (side w e).sessions → Heard w → Heard (put w e now None)
  quiet_heard w e now same h =
      let others = (side w (other e)).sessions in
      put_heard w e now None h (λ isn t f. grows_refl now.sessions isn t (ap (λ (l : List Session). find l isn) same ∙ f))
      (λ all. subst (λ (l : List Session). AllByRecursion (λ (s : Session). length s.state.given < 2 ^ 31) l) same all)
      (λ none all. subst (λ (l : List Session). AllReceived others l) (sym same) all)
      (λ none few all. subst (λ (l : List Session). AllAcked others l) (sym same) all)

  clock_if : (w : World) (e : End) (seconds : ℕ) (sessions : List Session) → (side w e).sessions ≡ sessions → Inv setup w → Heard w
      → Heard (put w e (record { clock = seconds; rows = (side w e).rows; sessions = ticked seconds sessions }) None)
  clock_if w e seconds [] is inv h = quiet_heard w e (record { clock = seconds; rows = (side w e).rows; sessions = [] }) (sym is) h
  clock_if w e seconds (s ∷ rest) is inv h =
      let sound : AllSound (s ∷ rest) = subst AllSound is (inv.sound e) in
      let whole : AllWhole (s ∷ rest) = subst AllWhole is (inv.whole e) in
      let u : Session = record { state = tick seconds s.state; end_shown = s.end_shown } in
      let half = ticks s.state seconds in
      let l = tick_later s.state seconds in
      head_heard setup fits w e s rest (record { clock = seconds; rows = (side w e).rows; sessions = u ∷ rest }) u None is refl inv sound.0 (steady_sound s.state u.state half.steady sound.0) (half.whole whole.0) l
      (same_gained setup e s.state u.state None half.same_received half.same_fin half.same_una) (grows_head s u rest l) h

  clock_heard : (w : World) (e : End) (seconds : ℕ) → Inv setup w → Heard w → Heard (put w e (with_clock (side w e) seconds) None)
  clock_heard w e seconds inv h = clock_if w e seconds (side w e).sessions refl inv h

  new_heard : (w : World) (e : End) (s : EndState) (o : Option Session) → find (side w e).sessions s.isn ≡ o → s.una ≤ s.isn + 1 → ((p : ℕ) → s.received p ≡ None) → s.fin ≡ None → Heard w
      → Heard (begin w e s o).world
  new_heard w e s (Some used) is low empty no_fin h = h
  new_heard w e s None is low empty no_fin h =
      let u : Session = record { state = s; end_shown = false } in
      put_heard w e (with_sessions (side w e) (u ∷ (side w e).sessions)) None h (grows_new u (side w e).sessions is) (λ all. all.1)
      (λ none all. (record { bytes = λ p b r. let z = empty p in absurd (cc); fins = λ f r. absurd (cc); sent = λ p b r. let z = empty p in absurd (cc); gone = λ f r. absurd (cc) }, all))
      (λ none few all. (inl low, all))

  arrive_heard : (w : World) (e : End) (bytes : List ℕ) → AreBytes bytes → Inv setup w → Heard w → Heard (on_live w e (come bytes (view_of setup w e))).world
  arrive_heard w e bytes all inv h = act_heard w e (side w e).sessions (come bytes (view_of setup w e)) refl inv (λ s a b. come_ok setup fits e w bytes s all a b) h

  deliver_heard : (w : World) (e : End) (o : Option Made) → ((m : Made) → o ≡ Some m → AreBytes m.bytes) → Inv setup w → Heard w → Heard (deliver setup w e o).world
  deliver_heard w e None all inv h = h
  deliver_heard w e (Some m) all inv h = arrive_heard w e m.bytes (all m refl) inv h

  alter_heard : (w : World) (e : End) (place mask : ℕ) (fixing : Fixing) (o : Option Made) → mask < 256 → ((m : Made) → o ≡ Some m → AreBytes m.bytes) → Inv setup w → Heard w
      → Heard (alter setup w e (record { place = place; mask = mask; fixing = fixing }) o).world
  alter_heard w e place mask fixing None low all inv h = h
  alter_heard w e place mask fixing (Some m) low all inv h =
      choose (λ (x : Stepped). Heard x.world) (has_place m.bytes place) _ _
      (λ t. arrive_heard w e (altered m.bytes (record { place = place; mask = mask; fixing = fixing })) (altered_bytes m.bytes place mask fixing low (record { at = all m refl })).at inv h) (λ t. h)

  add_heard : (w : World) (e : End) (o : Adding) → Heard w → Heard (add_row w e o).world
  add_heard w e (AddedAs n rows) h = quiet_heard w e (with_table (side w e) rows) refl h
  add_heard w e TooMany h = h
  add_heard w e (OverlapsRow n) h = h

  withdraw_heard : (w : World) (e : End) (o : Option (List Row)) → Heard w → Heard (withdraw w e o).world
  withdraw_heard w e None h = h
  withdraw_heard w e (Some rows) h = quiet_heard w e (with_table (side w e) rows) refl h

  pub step_heard : (w : World) (event : Event) → EventFits event → Inv setup w → Heard w → Heard (step setup w event).world
  step_heard w (At e (Clock seconds)) f inv h = clock_heard w e seconds inv h
  step_heard w (At e (Connect isn)) f inv h = new_heard w e (connected (pair_of setup e) isn) (find (side w e).sessions isn) refl (omega arith) (λ p. refl) refl h
  step_heard w (At e (Await isn)) f inv h = new_heard w e (listening (pair_of setup e) isn) (find (side w e).sessions isn) refl (omega arith) (λ p. refl) refl h
  step_heard w (At e (Start isn peer)) f inv h = new_heard w e (started (pair_of setup e) isn peer) (find (side w e).sessions isn) refl (omega arith) (λ p. refl) refl h
  step_heard w (At e (Give piece)) f inv h = act_heard w e (side w e).sessions _ refl inv (λ s a b. given_ok setup e piece s f a b) h
  step_heard w (At e (Fill count byte)) f inv h = act_heard w e (side w e).sessions _ refl inv (λ s a b. given_ok setup e (replicate count byte) s (repeated count byte f).at a b) h
  step_heard w (At e Send) f inv h = act_heard w e (side w e).sessions _ refl inv (λ s a b. send_ok setup e w (inv.rows e) s a b) h
  step_heard w (At e Resend) f inv h = act_heard w e (side w e).sessions _ refl inv (λ s a b. resend_act_ok setup e w (inv.rows e) s a b) h
  step_heard w (At e (Deliver name)) f inv h = deliver_heard w e (segment_named name w.history) (λ m is. named_bytes setup fits w name m inv is) inv h
  step_heard w (At e (Inject bytes)) f inv h = arrive_heard w e bytes f inv h
  step_heard w (At e (Alter name place mask fixing)) f inv h = alter_heard w e place mask fixing (segment_named name w.history) f (λ m is. named_bytes setup fits w name m inv is) inv h
  step_heard w (At e (Take count)) f inv h = act_heard w e (side w e).sessions _ refl inv (λ s a b. took_ok setup e count s a b) h
  step_heard w (At e Close) f inv h = act_heard w e (side w e).sessions _ refl inv (λ s a b. close_ok setup e s s.phase a b) h
  step_heard w (At e Abort) f inv h = act_heard w e (side w e).sessions _ refl inv (λ s a b. abort_ok setup e s a b) h
  step_heard w (At e (AddRow row)) f inv h = add_heard w e (adding (side w e).rows (row_of_new row)) h
  step_heard w (At e (Withdraw n)) f inv h = withdraw_heard w e (withdrawn (side w e).rows n) h
  step_heard w (Dump name) f inv h = h

  pub heard_from : (w : World) (events : List Event) → AllByRecursion EventFits events → Inv setup w → Heard w → Heard (run_from setup w events)
  heard_from w [] f inv h = h
  heard_from w (event ∷ events) f inv h = heard_from (step setup w event).world events f.1 (step_keeps setup fits w event f.0 inv) (step_heard w event f.0 inv h)

  pub run_heard : (events : List Event) → AllByRecursion EventFits events → Heard (run setup events)
  run_heard events f =
      heard_from (empty setup) events f (begins_inv setup fits)
      (record {
        origin = λ none. both (λ e. AllReceived (side (empty setup) (other e)).sessions (side (empty setup) e).sessions) tt tt;
        acks = λ none few. both (λ e. AllAcked (side (empty setup) (other e)).sessions (side (empty setup) e).sessions) tt tt;
      })
