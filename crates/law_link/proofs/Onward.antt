-- Each session goes on from step to step: what it was given and the number that it expects only grow.
use Rattle.std.proofs.Common.{◌≡◌, ◌<◌, ℕ, Bool, false, List, [], ◌∷◌, ◌++◌, replicate, Option, Some, None, refl, sym, subst}
use Rattle.std.specs.List.{AllByRecursion}
use Rattle.book_base.specs.declared.end.End.{End}
use Rattle.book_base.specs.declared.end.End.TheVariants.{A, B}
use Rattle.book_segments.specs.Spelling.{AreBytes}
use Rattle.book_keys.specs.Rows.{Row}
use Rattle.book_keys.specs.Tables.{Adding, AddedAs, TooMany, OverlapsRow, adding, withdrawn}
use Rattle.book_endpoint.specs.States.{EndState, connected, listening, started}
use Rattle.book_link.specs.declared.event.Fixing.{Fixing}
use Rattle.book_link.specs.Alterations.{has_place, altered}
use Rattle.book_link.specs.declared.event.Event.{Event}
use Rattle.book_link.specs.declared.event.Event.TheVariants.{At, Dump}
use Rattle.book_link.specs.declared.event.Action.TheVariants.{Clock, Connect, Listen, Start, Give, Fill, Send, Resend, Deliver, Inject, Alter, Take, Close, Abort, AddRow, Withdraw}
use Rattle.book_keys.specs.Tables.{row_of_new}
use Rattle.book_link.specs.Runs.{empty, run_from, run}
use Rattle.book_link.specs.Steps.{Stepped, Act, put, with_clock, with_table, with_sessions, acted, act_on, on_live, begin, come, deliver, alter, add_row, withdraw, step, view_of}
use Rattle.book_link.specs.Worlds.{Setup, pair_of, Session, LinkSide, Made, Happening, World, side, find, segment_named}
use Rattle.law_link.specs.Laws.{SetupFits, EventFits}
use Rattle.law_link.specs.Sessions.{OnlyGrow}
use Rattle.law_link.proofs.ByteLists.{altered_bytes, repeated}
use Rattle.law_link.proofs.Calls.{given_ok, took_ok, close_ok, abort_ok}
use Rattle.law_link.proofs.Histories.{run_split}
use Rattle.law_link.proofs.Invariant.{AllSound, AllWhole, Inv, Grows}
use Rattle.law_link.proofs.Keeping.{ActOk}
use Rattle.law_link.proofs.Making.{send_ok, resend_act_ok}
use Rattle.law_link.proofs.Running.{come_ok, named_bytes, run_inv, step_keeps, ticked_grows}
use Rattle.law_link.proofs.Sessions.{both, grows_head, grows_new, grows_refl}
use Rattle.law_link.proofs.Sound.{Sound, later_then}
use Rattle.law_link.proofs.Tests.{choose}
use Rattle.law_link.proofs.Whole.{Whole}

-- the sessions of both ends grow
abbrev BothGrow : World → World → Type 0
BothGrow w v = (e : End) → Grows (side w e).sessions (side v e).sessions

still : (w : World) → BothGrow w w
still w = λ e. grows_refl (side w e).sessions

grows_then : (old mid new : List Session) → Grows old mid → Grows mid new → Grows old new
grows_then old mid new one two = λ isn t e.
    let a = one isn t e in
    let b = two isn a.0 a.1 in
    (b.0, b.1, later_then t.state (a.0).state (b.0).state a.2 b.2)

put_grow : (w : World) (e : End) (now : LinkSide) (happened : Option Happening) → Grows (side w e).sessions now.sessions → BothGrow w (put w e now happened)
put_grow w A now happened g = both (λ f. Grows (side w f).sessions (side (put w A now happened) f).sessions) g (grows_refl w.b.sessions)
put_grow w B now happened g = both (λ f. Grows (side w f).sessions (side (put w B now happened) f).sessions) (grows_refl w.a.sessions) g

act_grow : (setup : Setup) (w : World) (e : End) (sessions : List Session) (call : EndState → Act) → (side w e).sessions ≡ sessions → Inv setup w
    → ((s : EndState) → Sound s → Whole s → ActOk setup e s (call s)) → BothGrow w (act_on w e sessions call).world
act_grow setup w e [] call is inv ok = still w
act_grow setup w e (s ∷ rest) call is inv ok =
    let sound : AllSound (s ∷ rest) = subst AllSound is (inv.sound e) in
    let whole : AllWhole (s ∷ rest) = subst AllWhole is (inv.whole e) in
    let act = call s.state in
    let u = acted s act in
    put_grow w e (with_sessions (side w e) (u ∷ rest)) act.happened
    (subst (λ (l : List Session). Grows l (u ∷ rest)) (sym is) (grows_head s u rest (ok s.state sound.0 whole.0).later))

begin_grow : (w : World) (e : End) (s : EndState) (o : Option Session) → find (side w e).sessions s.isn ≡ o → BothGrow w (begin w e s o).world
begin_grow w e s (Some used) is = still w
begin_grow w e s None is =
    let u : Session = record { state = s; end_shown = false } in
    put_grow w e (with_sessions (side w e) (u ∷ (side w e).sessions)) None (grows_new u (side w e).sessions is)

rows_grow : (w : World) (e : End) (rows : List Row) → BothGrow w (put w e (with_table (side w e) rows) None)
rows_grow w e rows = put_grow w e (with_table (side w e) rows) None (grows_refl (side w e).sessions)

add_grow : (w : World) (e : End) (o : Adding) → BothGrow w (add_row w e o).world
add_grow w e (AddedAs n rows) = rows_grow w e rows
add_grow w e TooMany = still w
add_grow w e (OverlapsRow n) = still w

withdraw_grow : (w : World) (e : End) (o : Option (List Row)) → BothGrow w (withdraw w e o).world
withdraw_grow w e None = still w
withdraw_grow w e (Some rows) = rows_grow w e rows

module _ (setup : Setup) (fits : SetupFits setup) where
  arrival_grow : (w : World) (e : End) (bytes : List ℕ) → AreBytes bytes → Inv setup w → BothGrow w (on_live w e (come bytes (view_of setup w e))).world
  arrival_grow w e bytes all inv = act_grow setup w e (side w e).sessions (come bytes (view_of setup w e)) refl inv (λ s a b. come_ok setup fits e w bytes s all a b)

  deliver_grow : (w : World) (e : End) (o : Option Made) → ((m : Made) → o ≡ Some m → AreBytes m.bytes) → Inv setup w → BothGrow w (deliver setup w e o).world
  deliver_grow w e None all inv = still w
  deliver_grow w e (Some m) all inv = arrival_grow w e m.bytes (all m refl) inv

  alter_grow : (w : World) (e : End) (place mask : ℕ) (fixing : Fixing) (o : Option Made) → mask < 256 → ((m : Made) → o ≡ Some m → AreBytes m.bytes) → Inv setup w
      → BothGrow w (alter setup w e (record { place = place; mask = mask; fixing = fixing }) o).world
  alter_grow w e place mask fixing None low all inv = still w
  alter_grow w e place mask fixing (Some m) low all inv =
      choose (λ (x : Stepped). BothGrow w x.world) (has_place m.bytes place) _ _
      (λ t. arrival_grow w e (altered m.bytes (record { place = place; mask = mask; fixing = fixing })) (altered_bytes m.bytes place mask fixing low (record { at = all m refl })).at inv) (λ t. still w)

  pub step_grow : (w : World) (event : Event) → EventFits event → Inv setup w → BothGrow w (step setup w event).world
  step_grow w (At e (Clock seconds)) f inv = put_grow w e (with_clock (side w e) seconds) None (ticked_grows seconds (side w e).sessions)
  step_grow w (At e (Connect isn)) f inv = begin_grow w e (connected (pair_of setup e) isn) (find (side w e).sessions isn) refl
  step_grow w (At e (Listen isn)) f inv = begin_grow w e (listening (pair_of setup e) isn) (find (side w e).sessions isn) refl
  step_grow w (At e (Start isn peer)) f inv = begin_grow w e (started (pair_of setup e) isn peer) (find (side w e).sessions isn) refl
  step_grow w (At e (Give piece)) f inv = act_grow setup w e (side w e).sessions _ refl inv (λ s a b. given_ok setup e piece s f a b)
  step_grow w (At e (Fill count byte)) f inv = act_grow setup w e (side w e).sessions _ refl inv (λ s a b. given_ok setup e (replicate count byte) s (repeated count byte f).at a b)
  step_grow w (At e Send) f inv = act_grow setup w e (side w e).sessions _ refl inv (λ s a b. send_ok setup e w (inv.rows e) s a b)
  step_grow w (At e Resend) f inv = act_grow setup w e (side w e).sessions _ refl inv (λ s a b. resend_act_ok setup e w (inv.rows e) s a b)
  step_grow w (At e (Deliver name)) f inv = deliver_grow w e (segment_named name w.history) (λ m is. named_bytes setup fits w name m inv is) inv
  step_grow w (At e (Inject bytes)) f inv = arrival_grow w e bytes f inv
  step_grow w (At e (Alter name place mask fixing)) f inv = alter_grow w e place mask fixing (segment_named name w.history) f (λ m is. named_bytes setup fits w name m inv is) inv
  step_grow w (At e (Take count)) f inv = act_grow setup w e (side w e).sessions _ refl inv (λ s a b. took_ok setup e count s a b)
  step_grow w (At e Close) f inv = act_grow setup w e (side w e).sessions _ refl inv (λ s a b. close_ok setup e s s.phase a b)
  step_grow w (At e Abort) f inv = act_grow setup w e (side w e).sessions _ refl inv (λ s a b. abort_ok setup e s a b)
  step_grow w (At e (AddRow row)) f inv = add_grow w e (adding (side w e).rows (row_of_new row))
  step_grow w (At e (Withdraw n)) f inv = withdraw_grow w e (withdrawn (side w e).rows n)
  step_grow w (Dump name) f inv = still w

  run_grow : (w : World) (events : List Event) → AllByRecursion EventFits events → Inv setup w → BothGrow w (run_from setup w events)
  run_grow w [] f inv = still w
  run_grow w (event ∷ events) f inv =
      let v = (step setup w event).world in
      let first = step_grow w event f.0 inv in
      let rest = run_grow v events f.1 (step_keeps setup fits w event f.0 inv) in
      λ e. grows_then (side w e).sessions (side v e).sessions (side (run_from setup v events) e).sessions (first e) (rest e)

  -- ---- the laws

  only_grow : (w v : World) → BothGrow w v → OnlyGrow w v
  only_grow w v g = λ e isn s found.
      let r = g e isn s found in
      let l = r.2 in
      (r.0, r.1, record { isn = l.same_isn; peer_isn = l.peer; given = (l.grown.0, sym l.grown.1); expected = l.up })

  pub steps_only_grow : (events : List Event) (event : Event) → AllByRecursion EventFits events → EventFits event → OnlyGrow (run setup events) (step setup (run setup events) event).world
  steps_only_grow events event f one =
      only_grow (run setup events) (step setup (run setup events) event).world (step_grow (run setup events) event one (run_inv setup fits events f))

  pub runs_only_grow : (events more : List Event) → AllByRecursion EventFits events → AllByRecursion EventFits more → OnlyGrow (run setup events) (run setup (events ++ more))
  runs_only_grow events more f g =
      subst (OnlyGrow (run setup events)) (sym (run_split setup (empty setup) events more))
      (only_grow (run setup events) (run_from setup (run setup events) more) (run_grow (run setup events) more g (run_inv setup fits events f)))
