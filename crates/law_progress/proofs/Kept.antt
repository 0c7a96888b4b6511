-- Each step keeps the facts.
use Rattle.std.proofs.Common.{◌≡◌, ℕ, ◌<◌, Bool, false, List, [], ◌∷◌, replicate, Option, Some, None, refl}
use Rattle.std.specs.List.{AllByRecursion}
use Rattle.book_base.specs.declared.end.End.{End}
use Rattle.book_segments.specs.Spelling.{AreBytes}
use Rattle.book_keys.specs.Tables.{Adding, AddedAs, TooMany, OverlapsRow, adding, withdrawn}
use Rattle.book_keys.specs.Rows.{Row}
use Rattle.book_endpoint.specs.declared.phase.Phase.TheVariants.{Listen, SynSent}
use Rattle.book_endpoint.specs.States.{EndState, connected, listening, started}
use Rattle.book_link.specs.declared.event.Fixing.{Fixing}
use Rattle.book_link.specs.Alterations.{has_place, altered}
use Rattle.book_keys.specs.Tables.{row_of_new}
use Rattle.book_link.specs.declared.event.Event.{Event}
use Rattle.book_link.specs.declared.event.Event.TheVariants.{At, Dump}
use Rattle.book_link.specs.declared.event.Action.TheVariants.{Clock, Connect, Listen as Await, Start, Give, Fill, Send, Resend, Deliver, Inject, Alter, Take, Close, Abort, AddRow, Withdraw}
use Rattle.book_link.specs.Worlds.{other, Setup, pair_of, Session, Made, World, side, find, segment_named}
use Rattle.book_link.specs.Steps.{Stepped, with_sessions, with_table, ticked, with_clock, begin, on_live, come, deliver, alter, add_row, withdraw, step, view_of}
use Rattle.book_link.specs.Runs.{empty, run_from, run}
use Rattle.law_link.specs.Laws.{SetupFits, TablesFit, EventFits}
use Rattle.law_link.proofs.Tests.{choose}
use Rattle.law_link.proofs.Invariant.{Inv}
use Rattle.law_link.proofs.Sessions.{both}
use Rattle.law_link.proofs.ByteLists.{altered_bytes, repeated}
use Rattle.law_link.proofs.Calls.{given_ok, took_ok, close_ok, abort_ok}
use Rattle.law_link.proofs.Making.{send_ok, resend_act_ok}
use Rattle.law_link.proofs.Running.{come_ok, named_bytes, step_keeps, run_inv}
use Rattle.law_progress.proofs.Telling.{given_told, took_told, close_told, abort_told, send_told, again_told, come_told, act_telling, quiet_telling, new_telling, clock_telling}
use Rattle.law_link.proofs.Delivery.{step_heard, run_heard}
use Rattle.law_progress.proofs.Calm.{AllCalm, calm_step}
use Rattle.law_progress.proofs.Facts.{Fit, AllFit, AllFits, AllFinTold, Telling, Facts}
use Rattle.law_progress.proofs.Fitting.{send_fit, again_fit, given_fit, close_fit, abort_fit, tick_fit, come_fit, beginning_fit, started_fit, put_fit, act_fit}

module _ (setup : Setup) where
  ticked_fit : (now : ℕ) (sessions : List Session) → AllFit sessions → AllFit (ticked now sessions)
  ticked_fit now [] h = h
  ticked_fit now (s ∷ rest) h = (tick_fit s.state now s.state.phase h.0, h.1)

  begin_fit : (w : World) (e : End) (s : EndState) (o : Option Session) → Fit s → AllFits w → AllFits (begin w e s o).world
  begin_fit w e s (Some used) new h = h
  begin_fit w e s None new h = put_fit w e (with_sessions (side w e) (record { state = s; end_shown = false } ∷ (side w e).sessions)) None (new, h e) h

  arrival_fit : (w : World) (e : End) (bytes : List ℕ) → Inv setup w → AllFits w → AllFits (on_live w e (come bytes (view_of setup w e))).world
  arrival_fit w e bytes inv h = act_fit setup w e (side w e).sessions (come bytes (view_of setup w e)) refl inv (λ s sound whole fit. come_fit setup e w bytes s sound whole fit) h

  deliver_fit : (w : World) (e : End) (o : Option Made) → Inv setup w → AllFits w → AllFits (deliver setup w e o).world
  deliver_fit w e None inv h = h
  deliver_fit w e (Some m) inv h = arrival_fit w e m.bytes inv h

  alter_fit : (w : World) (e : End) (place mask : ℕ) (fixing : Fixing) (o : Option Made) → Inv setup w → AllFits w → AllFits (alter setup w e (record { place = place; mask = mask; fixing = fixing }) o).world
  alter_fit w e place mask fixing None inv h = h
  alter_fit w e place mask fixing (Some m) inv h =
      choose (λ (x : Stepped). AllFits x.world) (has_place m.bytes place) _ _ (λ t. arrival_fit w e (altered m.bytes (record { place = place; mask = mask; fixing = fixing })) inv h) (λ t. h)

  add_fit : (w : World) (e : End) (o : Adding) → AllFits w → AllFits (add_row w e o).world
  add_fit w e (AddedAs n rows) h = put_fit w e (with_table (side w e) rows) None (h e) h
  add_fit w e TooMany h = h
  add_fit w e (OverlapsRow n) h = h

  withdraw_fit : (w : World) (e : End) (o : Option (List Row)) → AllFits w → AllFits (withdraw w e o).world
  withdraw_fit w e None h = h
  withdraw_fit w e (Some rows) h = put_fit w e (with_table (side w e) rows) None (h e) h

  fit_step : (w : World) (event : Event) → Inv setup w → AllFits w → AllFits (step setup w event).world
  fit_step w (At e (Clock seconds)) inv h = put_fit w e (with_clock (side w e) seconds) None (ticked_fit seconds (side w e).sessions (h e)) h
  fit_step w (At e (Connect isn)) inv h = begin_fit w e (connected (pair_of setup e) isn) (find (side w e).sessions isn) (beginning_fit (pair_of setup e) SynSent isn refl) h
  fit_step w (At e (Await isn)) inv h = begin_fit w e (listening (pair_of setup e) isn) (find (side w e).sessions isn) (beginning_fit (pair_of setup e) Listen isn refl) h
  fit_step w (At e (Start isn peer)) inv h = begin_fit w e (started (pair_of setup e) isn peer) (find (side w e).sessions isn) (started_fit (pair_of setup e) isn peer) h
  fit_step w (At e (Give piece)) inv h = act_fit setup w e (side w e).sessions _ refl inv (λ s a b fit. given_fit piece s a fit) h
  fit_step w (At e (Fill count byte)) inv h = act_fit setup w e (side w e).sessions _ refl inv (λ s a b fit. given_fit (replicate count byte) s a fit) h
  fit_step w (At e Send) inv h = act_fit setup w e (side w e).sessions _ refl inv (λ s a b fit. send_fit setup e w s fit) h
  fit_step w (At e Resend) inv h = act_fit setup w e (side w e).sessions _ refl inv (λ s a b fit. again_fit setup e w s fit) h
  fit_step w (At e (Deliver name)) inv h = deliver_fit w e (segment_named name w.history) inv h
  fit_step w (At e (Inject bytes)) inv h = arrival_fit w e bytes inv h
  fit_step w (At e (Alter name place mask fixing)) inv h = alter_fit w e place mask fixing (segment_named name w.history) inv h
  fit_step w (At e (Take count)) inv h = act_fit setup w e (side w e).sessions _ refl inv (λ s a b fit. fit) h
  fit_step w (At e Close) inv h = act_fit setup w e (side w e).sessions _ refl inv (λ s a b fit. close_fit s s.phase fit) h
  fit_step w (At e Abort) inv h = act_fit setup w e (side w e).sessions _ refl inv (λ s a b fit. abort_fit s fit) h
  fit_step w (At e (AddRow row)) inv h = add_fit w e (adding (side w e).rows (row_of_new row)) h
  fit_step w (At e (Withdraw n)) inv h = withdraw_fit w e (withdrawn (side w e).rows n) h
  fit_step w (Dump name) inv h = h

module _ (setup : Setup) (fits : SetupFits setup) where
  arrival_telling : (w : World) (e : End) (bytes : List ℕ) → AreBytes bytes → Facts setup w → Telling (on_live w e (come bytes (view_of setup w e))).world
  arrival_telling w e bytes all h =
      act_telling setup fits w e (side w e).sessions (come bytes (view_of setup w e)) refl h.inv h.heard h.fit (λ s a b c. come_ok setup fits e w bytes s all a b) (λ s a b c. come_told setup e w bytes s all a b c) h.telling

  deliver_telling : (w : World) (e : End) (o : Option Made) → ((m : Made) → o ≡ Some m → AreBytes m.bytes) → Facts setup w → Telling (deliver setup w e o).world
  deliver_telling w e None all h = h.telling
  deliver_telling w e (Some m) all h = arrival_telling w e m.bytes (all m refl) h

  alter_telling : (w : World) (e : End) (place mask : ℕ) (fixing : Fixing) (o : Option Made) → mask < 256 → ((m : Made) → o ≡ Some m → AreBytes m.bytes) → Facts setup w → Telling (alter setup w e (record { place = place; mask = mask; fixing = fixing }) o).world
  alter_telling w e place mask fixing None low all h = h.telling
  alter_telling w e place mask fixing (Some m) low all h =
      choose (λ (x : Stepped). Telling x.world) (has_place m.bytes place) _ _
      (λ t. arrival_telling w e (altered m.bytes (record { place = place; mask = mask; fixing = fixing })) (altered_bytes m.bytes place mask fixing low (record { at = all m refl })).at h) (λ t. h.telling)

  add_telling : (w : World) (e : End) (o : Adding) → Telling w → Telling (add_row w e o).world
  add_telling w e (AddedAs n rows) h = quiet_telling w e (with_table (side w e) rows) refl h
  add_telling w e TooMany h = h
  add_telling w e (OverlapsRow n) h = h

  withdraw_telling : (w : World) (e : End) (o : Option (List Row)) → Telling w → Telling (withdraw w e o).world
  withdraw_telling w e None h = h
  withdraw_telling w e (Some rows) h = quiet_telling w e (with_table (side w e) rows) refl h

  telling_step : (w : World) (event : Event) → EventFits event → Facts setup w → Telling (step setup w event).world
  telling_step w (At e (Clock seconds)) f h = clock_telling w e seconds h.telling
  telling_step w (At e (Connect isn)) f h = new_telling w e (connected (pair_of setup e) isn) (find (side w e).sessions isn) refl refl h.telling
  telling_step w (At e (Await isn)) f h = new_telling w e (listening (pair_of setup e) isn) (find (side w e).sessions isn) refl refl h.telling
  telling_step w (At e (Start isn peer)) f h = new_telling w e (started (pair_of setup e) isn peer) (find (side w e).sessions isn) refl refl h.telling
  telling_step w (At e (Give piece)) f h = act_telling setup fits w e (side w e).sessions _ refl h.inv h.heard h.fit (λ s a b c. given_ok setup e piece s f a b) (λ s a b c. given_told setup e piece s) h.telling
  telling_step w (At e (Fill count byte)) f h = act_telling setup fits w e (side w e).sessions _ refl h.inv h.heard h.fit (λ s a b c. given_ok setup e (replicate count byte) s (repeated count byte f).at a b) (λ s a b c. given_told setup e (replicate count byte) s) h.telling
  telling_step w (At e Send) f h = act_telling setup fits w e (side w e).sessions _ refl h.inv h.heard h.fit (λ s a b c. send_ok setup e w (h.inv.rows e) s a b) (λ s a b c. send_told setup e w s) h.telling
  telling_step w (At e Resend) f h = act_telling setup fits w e (side w e).sessions _ refl h.inv h.heard h.fit (λ s a b c. resend_act_ok setup e w (h.inv.rows e) s a b) (λ s a b c. again_told setup e w s a) h.telling
  telling_step w (At e (Deliver name)) f h = deliver_telling w e (segment_named name w.history) (λ m is. named_bytes setup fits w name m h.inv is) h
  telling_step w (At e (Inject bytes)) f h = arrival_telling w e bytes f h
  telling_step w (At e (Alter name place mask fixing)) f h = alter_telling w e place mask fixing (segment_named name w.history) f (λ m is. named_bytes setup fits w name m h.inv is) h
  telling_step w (At e (Take count)) f h = act_telling setup fits w e (side w e).sessions _ refl h.inv h.heard h.fit (λ s a b c. took_ok setup e count s a b) (λ s a b c. took_told setup e count s) h.telling
  telling_step w (At e Close) f h = act_telling setup fits w e (side w e).sessions _ refl h.inv h.heard h.fit (λ s a b c. close_ok setup e s s.phase a b) (λ s a b c. close_told setup e s s.phase) h.telling
  telling_step w (At e Abort) f h = act_telling setup fits w e (side w e).sessions _ refl h.inv h.heard h.fit (λ s a b c. abort_ok setup e s a b) (λ s a b c. abort_told setup e s) h.telling
  telling_step w (At e (AddRow row)) f h = add_telling w e (adding (side w e).rows (row_of_new row)) h.telling
  telling_step w (At e (Withdraw n)) f h = withdraw_telling w e (withdrawn (side w e).rows n) h.telling
  telling_step w (Dump name) f h = h.telling

pub facts_step : (setup : Setup) → SetupFits setup → (w : World) (event : Event) → EventFits event → Facts setup w → Facts setup (step setup w event).world
facts_step setup fits w event f facts =
    record { tables = facts.tables; inv = step_keeps setup fits w event f facts.inv; heard = step_heard setup fits w event f facts.inv facts.heard; fit = fit_step setup w event facts.inv facts.fit; telling = telling_step setup fits w event f facts; calm = calm_step setup w event facts.calm }

pub facts_from : (setup : Setup) → SetupFits setup → (w : World) (events : List Event) → AllByRecursion EventFits events → Facts setup w → Facts setup (run_from setup w events)
facts_from setup fits w [] f facts = facts
facts_from setup fits w (event ∷ events) f facts = facts_from setup fits (step setup w event).world events f.1 (facts_step setup fits w event f.0 facts)

pub run_facts : (setup : Setup) → SetupFits setup → TablesFit setup → (events : List Event) → AllByRecursion EventFits events → Facts setup (run setup events)
run_facts setup fits tables events f =
    facts_from setup fits (empty setup) events f (record {
      tables = tables;
      inv = run_inv setup fits [] tt;
      heard = run_heard setup fits [] tt;
      fit = both (λ (e : End). AllFit (side (empty setup) e).sessions) tt tt;
      telling = record { tells = tt; told = λ none few. both (λ (e : End). AllFinTold (side (empty setup) (other e)).sessions (side (empty setup) e).sessions) tt tt };
      calm = both (λ (e : End). AllCalm (side (empty setup) e).sessions) tt tt;
    })
