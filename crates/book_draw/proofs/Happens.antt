-- That the arrows of a run's rungs are those of its history.
use Rattle.std.proofs.Common.{◌≡◌, ℕ, suc, ◌==◌, nat_lt, not, Bool, true, false, ◌||◌, List, [], ◌∷◌, ◌++◌, replicate, length, Option, Some, None, if◌then◌else◌, refl, sym, ap, ◌∙◌, append_assoc}
use Rattle.std.proofs.lemmas.List.{append-nil}
use Rattle.book_base.specs.declared.end.End.{End}
use Rattle.book_base.specs.declared.end.End.TheVariants.{A, B}
use Rattle.book_segments.specs.Segments.{Reading, reading}
use Rattle.book_keys.specs.Rows.{Row}
use Rattle.book_keys.specs.Tables.{Adding, AddedAs, TooMany, OverlapsRow, adding, withdrawn}
use Rattle.book_endpoint.specs.declared.phase.Phase.{Phase}
use Rattle.book_endpoint.specs.States.{EndState, close, abort, give, gives, room}
use Rattle.book_endpoint.specs.Arrivals.{Arrived, arrive}
use Rattle.book_endpoint.specs.Emissions.{Emission, Emitted, Quiet, NoKey, Emits, emit, resend}
use Rattle.book_link.specs.declared.event.Fixing.{Fixing}
use Rattle.book_link.specs.declared.event.Transmission.{Transmission}
use Rattle.book_link.specs.declared.event.Transmission.TheVariants.{New, Again}
use Rattle.book_link.specs.declared.event.Event.{Event}
use Rattle.book_link.specs.declared.event.Event.TheVariants as event
use Rattle.book_link.specs.declared.event.Action.TheVariants as action
use Rattle.book_link.specs.Alterations.{has_place, altered}
use Rattle.book_link.specs.Outcomes as outcome
use Rattle.book_keys.specs.Tables.{row_of_new}
use Rattle.book_link.specs.Runs.{empty, run, run_from}
use Rattle.book_link.specs.Steps.{Act, Stepped, act_on, add, alter, begin, came, come, deliver, given, on_live, put, quietly, send, send_again, sent, step, took, add_row, withdraw, view_of}
use Rattle.book_link.specs.Worlds.{Setup, Session, Made, World, Happening, Making, Coming, find, pair_of, segment_named, side}
use Rattle.book_draw.specs.Arrows.{Arrow, Leaves, Reaches, arrow_of, arrows, happened}
use Rattle.book_draw.specs.declared.rung.Brought.{Brought}
use Rattle.book_draw.specs.declared.rung.Deed.{Deed}
use Rattle.book_draw.specs.declared.rung.Deed.TheVariants as deed
use Rattle.book_draw.specs.declared.rung.Rung.{Rung}
use Rattle.book_draw.specs.declared.rung.Rung.TheVariants.{Clock, Made as MadeRung, Came, Call, Turned}
use Rattle.book_draw.specs.Rungs.{ahead, coming_rung, making_rung, phase_at, reply_of, rung_of, rungs, rungs_at, rungs_from, same_phase, turned, turned_from}

-- the arrows of a rung, if there is one
abbrev of_rung : Option Rung → List Arrow
of_rung r = arrows (ahead r [])

-- a history after a step is the one before with these arrows
record Grows (before after : List Happening) (arrows_of : List Arrow) : Type 0 where
  grows : happened after ≡ happened before ++ arrows_of

-- an option's rung in front
ahead_splits : (r : Option Rung) (rs : List Rung) → arrows (ahead r rs) ≡ of_rung r ++ arrows rs
ahead_splits None rs = refl
ahead_splits (Some (Clock e seconds)) rs = refl
ahead_splits (Some (MadeRung e s transmission)) rs = refl
ahead_splits (Some (Came e what answer)) rs = refl
ahead_splits (Some (Call e d reply)) rs = refl
ahead_splits (Some (Turned e phase)) rs = refl

pub arrows_append : (xs ys : List Rung) → arrows (xs ++ ys) ≡ arrows xs ++ arrows ys
arrows_append [] ys = refl
arrows_append (Clock e seconds ∷ xs) ys = arrows_append xs ys
arrows_append (MadeRung e s transmission ∷ xs) ys = ap (λ (l : List Arrow). Leaves e s ∷ l) (arrows_append xs ys)
arrows_append (Came e what answer ∷ xs) ys = ap (λ (l : List Arrow). Reaches e answer ∷ l) (arrows_append xs ys)
arrows_append (Call e d reply ∷ xs) ys = arrows_append xs ys
arrows_append (Turned e phase ∷ xs) ys = arrows_append xs ys

turn_if : (e : End) (b : Bool) (p : Phase) → of_rung (if b then None else Some (Turned e p)) ≡ []
turn_if e true p = refl
turn_if e false p = refl

-- a phase has no arrow
no_turn : (e : End) (before after : Option Phase) → of_rung (turned e before after) ≡ []
no_turn e before None = refl
no_turn e None (Some p) = refl
no_turn e (Some q) (Some p) = turn_if e (same_phase q p) p

-- the arrows of an event's rungs are those of what happened
only_first : (r x y : Option Rung) → of_rung x ≡ [] → of_rung y ≡ [] → arrows (ahead r (ahead x (ahead y []))) ≡ of_rung r
only_first r x y none also =
    ahead_splits r (ahead x (ahead y [])) ∙ (ap (λ (l : List Arrow). of_rung r ++ l) (ahead_splits x (ahead y [])) ∙ rw (none, also) (append-nil (of_rung r)))

module _ (w : World) where
  -- what a step of an event with this rung leaves
  abbrev Leaves_by : (outcome.Outcome → Option Rung) → Stepped → Type 0
  Leaves_by rung s = happened s.world.history ≡ happened w.history ++ of_rung (rung s.outcome)

  -- nothing happened
  stays : (rung : outcome.Outcome → Option Rung) (s : Stepped) → s.world.history ≡ w.history → of_rung (rung s.outcome) ≡ [] → Leaves_by rung s
  stays rung s same none = rw (same, none) (sym (append-nil (happened w.history)))

  put_history : (e : End) (now : _) (h : Option Happening) → (put w e now h).history ≡ add h w.history
  put_history A now h = refl
  put_history B now h = refl

  -- the arrow of what happened, if it happened
  abbrev of_happening : Option Happening → List Arrow
  of_happening None = []
  of_happening (Some h) = arrow_of h ∷ []

  added : (h : Option Happening) → happened (add h w.history) ≡ happened w.history ++ of_happening h
  added None = sym (append-nil (happened w.history))
  added (Some h) = refl

  acts : (e : End) (sessions : List Session) (call : EndState → Act) (rung : outcome.Outcome → Option Rung) → of_rung (rung outcome.NoSession) ≡ []
      → ((s : EndState) → of_rung (rung (call s).outcome) ≡ of_happening (call s).happened) → Leaves_by rung (act_on w e sessions call)
  acts e [] call rung none each = stays rung (act_on w e [] call) refl none
  acts A (s ∷ rest) call rung none each = added (call s.state).happened ∙ ap (λ (l : List Arrow). happened w.history ++ l) (sym (each s.state))
  acts B (s ∷ rest) call rung none each = added (call s.state).happened ∙ ap (λ (l : List Arrow). happened w.history ++ l) (sym (each s.state))

  calls : (e : End) (d : Deed) (s : Stepped) → s.world.history ≡ w.history → Leaves_by (λ o. Some (Call e d (reply_of o))) s
  calls e d s same = stays (λ o. Some (Call e d (reply_of o))) s same refl

  begun : (e : End) (s : EndState) (found : Option Session) → (begin w e s found).world.history ≡ w.history
  begun e s (Some used) = refl
  begun A s None = refl
  begun B s None = refl

  quiet : (e : End) (sessions : List Session) (call : EndState → Act) → ((s : EndState) → (call s).happened ≡ None) → (act_on w e sessions call).world.history ≡ w.history
  quiet e [] call none = refl
  quiet A (s ∷ rest) call none = ap (λ (h : Option Happening). add h w.history) (none s.state)
  quiet B (s ∷ rest) call none = ap (λ (h : Option Happening). add h w.history) (none s.state)

  -- a piece that is given, or refused
  piece : (closed full : Bool) (s after : EndState) →
      (if closed then quietly s outcome.HasClosed else (if full then quietly s outcome.Full else quietly after outcome.Done)).happened ≡ None
  piece true full s after = refl
  piece false true s after = refl
  piece false false s after = refl

  row_added : (e : End) (a : Adding) → (add_row w e a).world.history ≡ w.history
  row_added A (AddedAs n rows) = refl
  row_added B (AddedAs n rows) = refl
  row_added e TooMany = refl
  row_added e (OverlapsRow n) = refl

  row_withdrawn : (e : End) (rows : Option (List Row)) → (withdraw w e rows).world.history ≡ w.history
  row_withdrawn e None = refl
  row_withdrawn A (Some rows) = refl
  row_withdrawn B (Some rows) = refl

  made : (setup : Setup) (e : End) (d : Deed) (transmission : Transmission) (s : EndState) (without : outcome.Outcome) (em : Emitted) → of_rung (Some (making_rung e d transmission without)) ≡ []
      → of_rung (Some (making_rung e d transmission (sent (view_of setup w e) s without em).outcome)) ≡ of_happening (sent (view_of setup w e) s without em).happened
  made setup e d transmission s without Quiet none = none
  made setup e d transmission s without NoKey none = refl
  made setup e d transmission s without (Emits out) none = refl

  reached : (setup : Setup) (e : End) (d : Deed) (what : Brought) (bytes : List ℕ) → Leaves_by (λ o. Some (coming_rung e d what o)) (on_live w e (come bytes (view_of setup w e)))
  reached setup e d what bytes = acts e (side w e).sessions (come bytes (view_of setup w e)) (λ o. Some (coming_rung e d what o)) refl (λ s. refl)

  delivered : (setup : Setup) (e : End) (d : Deed) (what : Brought) (m : Option Made) → Leaves_by (λ o. Some (coming_rung e d what o)) (deliver setup w e m)
  delivered setup e d what None = stays (λ o. Some (coming_rung e d what o)) (deliver setup w e None) refl refl
  delivered setup e d what (Some m) = reached setup e d what m.bytes

  placed : (setup : Setup) (e : End) (d : Deed) (what : Brought) (bytes : List ℕ) (b : Bool) →
      Leaves_by (λ o. Some (coming_rung e d what o)) (if b then on_live w e (come bytes (view_of setup w e)) else record { world = w; outcome = outcome.NoPlace })
  placed setup e d what bytes true = reached setup e d what bytes
  placed setup e d what bytes false = stays (λ o. Some (coming_rung e d what o)) (record { world = w; outcome = outcome.NoPlace }) refl refl

  changed : (setup : Setup) (e : End) (d : Deed) (what : Brought) (place mask : ℕ) (fixing : Fixing) (m : Option Made) →
      Leaves_by (λ o. Some (coming_rung e d what o)) (alter setup w e (record { place = place; mask = mask; fixing = fixing }) m)
  changed setup e d what place mask fixing None = stays (λ o. Some (coming_rung e d what o)) (alter setup w e (record { place = place; mask = mask; fixing = fixing }) None) refl refl
  changed setup e d what place mask fixing (Some m) = placed setup e d what (altered m.bytes (record { place = place; mask = mask; fixing = fixing })) (has_place m.bytes place)

  clock_set : (e : End) (n : ℕ) (setup : Setup) → (step setup w (event.At e (action.Clock n))).world.history ≡ w.history
  clock_set A n setup = refl
  clock_set B n setup = refl

  -- what each event leaves
  each : (setup : Setup) (x : Event) → Leaves_by (rung_of x) (step setup w x)
  each setup (event.At e (action.Clock n)) = stays (rung_of (event.At e (action.Clock n))) (step setup w (event.At e (action.Clock n))) (clock_set e n setup) refl
  each setup (event.At e (action.Connect isn)) = calls e deed.Connect (step setup w (event.At e (action.Connect isn))) (begun e _ (find (side w e).sessions isn))
  each setup (event.At e (action.Listen isn)) = calls e deed.Listen (step setup w (event.At e (action.Listen isn))) (begun e _ (find (side w e).sessions isn))
  each setup (event.At e (action.Start isn peer)) = calls e deed.Start (step setup w (event.At e (action.Start isn peer))) (begun e _ (find (side w e).sessions isn))
  each setup (event.At e (action.Give bytes)) = calls e (deed.Give (length bytes)) (step setup w (event.At e (action.Give bytes))) (quiet e (side w e).sessions (given bytes) (λ s. piece (not (gives s)) (nat_lt (room s) (length bytes)) s (give bytes s)))
  each setup (event.At e (action.Fill count byte)) = calls e (deed.Give count) (step setup w (event.At e (action.Fill count byte)))
      (quiet e (side w e).sessions (given (replicate count byte)) (λ s. piece (not (gives s)) (nat_lt (room s) (length (replicate count byte))) s (give (replicate count byte) s)))
  each setup (event.At e action.Send) = acts e (side w e).sessions (send (view_of setup w e)) (rung_of (event.At e action.Send)) refl (λ s. made setup e _ New s outcome.Idle _ refl)
  each setup (event.At e action.Resend) = acts e (side w e).sessions (send_again (view_of setup w e)) (rung_of (event.At e action.Resend)) refl (λ s. made setup e _ Again s outcome.Nothing _ refl)
  each setup (event.At e (action.Deliver n)) = delivered setup e _ _ (segment_named n w.history)
  each setup (event.At e (action.Inject bytes)) = reached setup e _ _ bytes
  each setup (event.At e (action.Alter n place mask fixing)) = changed setup e _ _ place mask fixing (segment_named n w.history)
  each setup (event.At e (action.Take count)) = calls e deed.Take (step setup w (event.At e (action.Take count))) (quiet e (side w e).sessions (took count) (λ s. refl))
  each setup (event.At e action.Close) = calls e deed.Close (step setup w (event.At e action.Close)) (quiet e (side w e).sessions (λ s. quietly (close s) outcome.Done) (λ s. refl))
  each setup (event.At e action.Abort) = calls e deed.Abort (step setup w (event.At e action.Abort)) (quiet e (side w e).sessions (λ s. quietly (abort s) outcome.Done) (λ s. refl))
  each setup (event.At e (action.AddRow row)) = calls e deed.Add (step setup w (event.At e (action.AddRow row))) (row_added e (adding (side w e).rows (row_of_new row)))
  each setup (event.At e (action.Withdraw n)) = calls e (deed.Withdraw n) (step setup w (event.At e (action.Withdraw n))) (row_withdrawn e (withdrawn (side w e).rows n))
  each setup (event.Dump n) = stays (rung_of (event.Dump n)) (step setup w (event.Dump n)) refl refl

  one : (setup : Setup) (x : Event) → happened (step setup w x).world.history ≡ happened w.history ++ arrows (rungs_at setup w x)
  one setup x =
      let s = step setup w x in
      let first = only_first (rung_of x s.outcome) (turned A (phase_at w A) (phase_at s.world A)) (turned B (phase_at w B) (phase_at s.world B))
      (no_turn A (phase_at w A) (phase_at s.world A)) (no_turn B (phase_at w B) (phase_at s.world B)) in
      each setup x ∙ ap (λ (l : List Arrow). happened w.history ++ l) (sym first)

from : (setup : Setup) (w : World) (events : List Event) → happened (run_from setup w events).history ≡ happened w.history ++ arrows (rungs_from setup w events)
from setup w [] = sym (append-nil (happened w.history))
from setup w (x ∷ events) =
    let now = (step setup w x).world in
    let rest = rungs_from setup now events in
    from setup now events ∙ (ap (λ (l : List Arrow). l ++ arrows rest) (one w setup x)
    ∙ (append_assoc (happened w.history) (arrows (rungs_at setup w x)) (arrows rest)
    ∙ ap (λ (l : List Arrow). happened w.history ++ l) (sym (arrows_append (rungs_at setup w x) rest))))

-- the arrows of a run
pub all_arrows : (setup : Setup) (events : List Event) → arrows (rungs setup events) ≡ happened (run setup events).history
unfolding rungs
all_arrows setup events = sym (from setup (empty setup) events)
