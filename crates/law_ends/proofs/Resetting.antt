-- A reset comes of an abort at the other end.
use Rattle.std.proofs.Common.{◌≡◌, inl, inr, ℕ, ◌/◌, ◌==◌, Bool, true, false, List, [], ◌∷◌, ◌++◌, Option, Some, None, Ok, Err, if◌then◌else◌, refl, sym, ap, ◌∙◌, subst, append_assoc, append-nil}
use Rattle.std.specs.Prelude.{option_map}
use Rattle.std.specs.List.{AllByRecursion}
use Rattle.book_base.specs.declared.address.Pair.{Pair}
use Rattle.book_base.specs.declared.end.End.{End}
use Rattle.book_base.specs.declared.end.End.TheVariants.{A, B}
use Rattle.book_segments.specs.Segments.{Segment, Reading, Read, Bad as Unread, reading, pair_reached}
use Rattle.book_segments.proofs.Fields.{some_is}
use Rattle.book_keys.specs.Rows.{Row}
use Rattle.book_endpoint.specs.declared.arrival.Arrival.{Arrival}
use Rattle.book_endpoint.specs.declared.arrival.Arrival.TheVariants.{Reset}
use Rattle.book_endpoint.specs.declared.phase.Phase.{Phase}
use Rattle.book_endpoint.specs.declared.phase.Phase.TheVariants.{TimeWait}
use Rattle.book_endpoint.specs.States.{EndState, is_due, tick, tick_in}
use Rattle.book_endpoint.specs.Arrivals.{arrive}
use Rattle.book_endpoint.specs.Verdicts.{Judgement}
use Rattle.book_link.specs.declared.event.Event.{Event}
use Rattle.book_link.specs.declared.event.Event.TheVariants.{At as AtEnd}
use Rattle.book_link.specs.declared.event.Action.TheVariants as action
use Rattle.book_link.specs.Worlds.{Setup, other, pair_of, Session, LinkSide, Came, Happening, Coming, World, side, live, forgeries}
use Rattle.book_link.specs.Steps.{put, with_sessions, acted, act_on, come, step, view_of}
use Rattle.book_link.specs.Runs.{empty, run_from}
use Rattle.book_cmd_node.specs.declared.node.NodeEvent.{NodeEvent}
use Rattle.book_cmd_node.specs.declared.node.NodeEvent.TheVariants as event
use Rattle.book_cmd_node.specs.NodeRuns.{NodeState, NodeOutcome, DatagramAnswered, held_end, most_ends, node_step, node_outcomes_from}
use Rattle.book_stack.specs.Calls.{Input, Output, Incoming, Did, Rests, answer_moving, asked_for, bytes_received, call, heard_pair, met}
use Rattle.book_stack.specs.Stacks.{StackState, asking_judged, asks}
use Rattle.book_stack.specs.Turns.{Turn, clocked, passing}
use Rattle.law_node.specs.Alone.{is_for}
use Rattle.law_node.proofs.Held.{end_ticked}
use Rattle.law_node.proofs.Pairs.{same_pair_is}
use Rattle.law_stack.proofs.Turned.{clocked_anew, clocked_plain}
use Rattle.law_link.specs.Laws.{SetupFits, Arrives, PartnerAborted}
use Rattle.law_link.proofs.Histories.{run_split}
use Rattle.law_link.proofs.Tests.{choose}
use Rattle.law_link.proofs.Invariant.{Inv}
use Rattle.law_link.proofs.Origin.{resets_by_abort}
use Rattle.law_link.proofs.Partners.{partner_is_one}
use Rattle.law_link.proofs.Running.{run_inv}
use Rattle.law_ends.specs.Doings.{Doing, DoingFits, CallFits, Twins, stack_of, after_doing, twins, twins_from, new_twins}
use Rattle.law_ends.specs.Users.{UserSession, user_sessions, FreshIsns, AreTold}
use Rattle.law_ends.specs.Links.{IsLive, answered_events, events_by, doing_events, link_events_from, link_events}
use Rattle.law_ends.specs.Ends.{past, TellsReset, ResetByAbort}
use Rattle.law_ends.proofs.Calling.{IsQuiet, quiet_told, plain_goes}
use Rattle.law_ends.proofs.Fitting.{PlainFits, joined_fit, events_fit, events_fit_all}
use Rattle.law_ends.proofs.Going.{BothStand, begins_stand, doings_go}
use Rattle.law_ends.proofs.Making.{clocked_makes}
use Rattle.law_ends.proofs.Promising.{one_found}
use Rattle.law_ends.proofs.Standing.{Stands, Goes}

-- ---- what a call did that tells a reset

-- it heard bytes at this end, by which it was reset
record HeardReset (pair : Pair) (bytes : List ℕ) (r : Reading) (s : StackState) (d : Did) : Type 0 where
  pub end : EndState
  pub held : held_end pair s.node.ends ≡ Some end
  pub events : d.events ≡ event.Inject bytes ∷ []
  pub outcomes : d.outcomes ≡ DatagramAnswered Reset ∷ []
  pub answer : (arrive s.rows pair s.node.clock end r).answer ≡ Reset

moving_reset : (b : Bool) (a : Arrival) → TellsReset (answer_moving b (DatagramAnswered a)) → a ≡ Reset
moving_reset true a (inl e) = absurd (cc)
moving_reset true a (inr e) = cc
moving_reset false a (inl e) = cc
moving_reset false a (inr e) = absurd (cc)

module _ (pair : Pair) (coming : Incoming) (d : Segment) (s : StackState) where
  heard_reset : (o : Option EndState) → held_end pair s.node.ends ≡ o → TellsReset (heard_pair coming pair d s o).answer → HeardReset pair coming.bytes (Read d) s (heard_pair coming pair d s o)
  heard_reset None held (inl e) = absurd (cc)
  heard_reset None held (inr e) = absurd (cc)
  heard_reset (Some u) held tells =
      let a = arrive s.rows pair s.node.clock u (Read d) in
      let is : a.answer ≡ Reset = moving_reset _ a.answer tells in
      record { end = u; held = held; events = refl; outcomes = ap (λ (x : Arrival). DatagramAnswered x ∷ []) is; answer = is }

module _ (coming : Incoming) (d : Segment) (s : StackState) where
  asked_reset : (o : Option EndState) (j : Judgement) → held_end (pair_reached d) s.node.ends ≡ o → TellsReset (asked_for coming d s o j).answer → HeardReset (pair_reached d) coming.bytes (Read d) s (asked_for coming d s o j)
  asked_reset o (Ok p) held (inl e) = absurd (cc)
  asked_reset o (Ok p) held (inr e) = absurd (cc)
  asked_reset None (Err why) held (inl e) = absurd (cc)
  asked_reset None (Err why) held (inr e) = absurd (cc)
  asked_reset (Some u) (Err why) held tells = heard_reset (pair_reached d) coming d s (Some u) held tells

  met_reset : (o : Option EndState) → held_end (pair_reached d) s.node.ends ≡ o → TellsReset (met coming d s o).answer → HeardReset (pair_reached d) coming.bytes (Read d) s (met coming d s o)
  met_reset o held = at (asks d o)
    where
      at : (v : Bool) → TellsReset (let x : Did = if v then asked_for coming d s o (asking_judged s d) else heard_pair coming (pair_reached d) d s o in x.answer)
          → HeardReset (pair_reached d) coming.bytes (Read d) s (if v then asked_for coming d s o (asking_judged s d) else heard_pair coming (pair_reached d) d s o)
      at true tells = asked_reset o (asking_judged s d) held tells
      at false tells = heard_reset (pair_reached d) coming d s o held tells

received_reset : (pair : Pair) (coming : Incoming) (s : StackState) (r : Reading) → is_for pair r ≡ true → TellsReset (bytes_received coming r s).answer → HeardReset pair coming.bytes r s (bytes_received coming r s)
received_reset pair coming s (Unread fault) mine tells = absurd (cc)
received_reset pair coming s (Read d) mine tells =
    subst (λ (p : Pair). HeardReset p coming.bytes (Read d) s (bytes_received coming (Read d) s)) (same_pair_is (pair_reached d) pair mine)
    (met_reset coming d s (held_end (pair_reached d) s.node.ends) refl tells)

-- ---- lists of events

-- the events of more plain events
events_more : (pair : Pair) (e : End) (rows : List Row) (n : NodeState) (es fs : List NodeEvent) (ps : List NodeOutcome)
    → events_by pair e (es ++ fs) (node_outcomes_from most_ends rows n es ++ ps) ≡ events_by pair e es (node_outcomes_from most_ends rows n es) ++ events_by pair e fs ps
events_more pair e rows n [] fs ps = refl
events_more pair e rows n (x ∷ es) fs ps =
    let step = node_step most_ends rows n x in
    let first = answered_events pair e x step.outcome in
    ap (λ (l : List Event). first ++ l) (events_more pair e rows step.node es fs ps) ∙ sym (append_assoc first (events_by pair e es (node_outcomes_from most_ends rows step.node es)) (events_by pair e fs ps))

-- the events of more calls
links_more : (setup : Setup) (t : Twins) (doings more : List Doing) → link_events_from setup t (doings ++ more) ≡ link_events_from setup t doings ++ link_events_from setup (twins_from t doings) more
links_more setup t [] more = refl
links_more setup t (d ∷ doings) more =
    let first = doing_events setup t d in
    let next = after_doing t d in
    ap (λ (l : List Event). first ++ l) (links_more setup next doings more) ∙ sym (append_assoc first (link_events_from setup next doings) (link_events_from setup (twins_from next doings) more))

-- ---- the arrival at the link

-- an arrival at the live session of an end, as the history has it
record CameTo (setup : Setup) (w : World) (e : End) (bytes : List ℕ) (u : EndState) : Type 0 where
  pub came : Came
  pub at : came.at ≡ e
  pub session : Session
  pub lives : live (side w e).sessions ≡ Some session
  pub state : session.state ≡ u
  pub history : (act_on w e (side w e).sessions (come bytes (view_of setup w e))).world.history ≡ Coming came ∷ w.history
  pub answer : came.answer ≡ (arrive (side w e).rows (pair_of setup e) (side w e).clock u (reading bytes)).answer

put_history : (w : World) (e : End) (now : LinkSide) (h : Happening) → (put w e now (Some h)).history ≡ h ∷ w.history
put_history w A now h = refl
put_history w B now h = refl

comes_to : (setup : Setup) (w : World) (e : End) (bytes : List ℕ) (u : EndState) (sessions : List Session) → (side w e).sessions ≡ sessions → IsLive (Some u) (live sessions) → CameTo setup w e bytes u
comes_to setup w e bytes u [] is h = let none = h.1 in absurd (cc)
comes_to setup w e bytes u (s ∷ rest) is h =
    let a = arrive (side w e).rows (pair_of setup e) (side w e).clock s.state (reading bytes) in
    let same : s.state ≡ u = ap (λ (x : Session). x.state) (some_is s h.0 h.1) ∙ h.2 in
    let v = view_of setup w e in
    let k : Came = record { at = e; isn = s.state.isn; clock = (side w e).clock; bytes = bytes; answer = a.answer; passed = a.passed } in
    record {
      came = k;
      at = refl;
      session = s;
      lives = ap live is;
      state = same;
      history = ap (λ (l : List Session). (act_on w e l (come bytes v)).world.history) is ∙ put_history w e (with_sessions (side w e) (acted s (come bytes v s.state) ∷ rest)) (Coming k);
      answer = ap (λ (x : EndState). (arrive (side w e).rows (pair_of setup e) (side w e).clock x (reading bytes)).answer) same;
    }

-- the answer of the end of the link is that of the stack's
same_answer : (setup : Setup) (l : LinkSide) (e : End) (rows : List Row) (n : NodeState) (us : List UserSession) (u : EndState) (r : Reading) → Stands (pair_of setup e) l rows n us
    → (arrive l.rows (pair_of setup e) l.clock u r).answer ≡ (arrive rows (pair_of setup e) n.clock u r).answer
same_answer setup l e rows n us u r h =
    ap (λ (x : List Row). (arrive x (pair_of setup e) l.clock u r).answer) h.rows_are ∙ ap (λ (x : ℕ). (arrive rows (pair_of setup e) x u r).answer) h.clock_is

-- ---- the clock

tick_peer : (s : EndState) (now : ℕ) (phase : Phase) → (tick_in phase now s).peer_isn ≡ s.peer_isn
tick_peer s now TimeWait = choose (λ (x : EndState). x.peer_isn ≡ s.peer_isn) (is_due s.deadline now) _ s (λ t. refl) (λ t. refl)
tick_peer s now _ = refl

ticked_end : (now : ℕ) (o : Option EndState) (x : EndState) → option_map (tick now) o ≡ Some x → (u : EndState) × (o ≡ Some u) × (u.peer_isn ≡ x.peer_isn)
ticked_end now None x e = absurd (cc)
ticked_end now (Some u) x e = (u, refl, sym (tick_peer u now u.phase) ∙ ap (λ (y : EndState). y.peer_isn) (some_is (tick now u) x e))

-- an end that is held after the clock went on was held before
held_before : (pair : Pair) (now : ℕ) (s : StackState) (x : EndState) → held_end pair (clocked now s).stack.node.ends ≡ Some x → (u : EndState) × (held_end pair s.node.ends ≡ Some u) × (u.peer_isn ≡ x.peer_isn)
held_before pair now s x = at (s.node.clock == now / 1000)
  where
    at : (v : Bool) → (let t : Turn = if v then passing s else clocked_anew now s in held_end pair t.stack.node.ends ≡ Some x) → (u : EndState) × (held_end pair s.node.ends ≡ Some u) × (u.peer_isn ≡ x.peer_isn)
    at true e = (x, e, refl)
    at false e = ticked_end (now / 1000) (held_end pair s.node.ends) x (sym (end_ticked pair (now / 1000) s.node.ends) ∙ e)

-- ---- the law

module _ (setup : Setup) (most : End → ℕ) (doings : List Doing) (e : End) (coming : Incoming) (fits : SetupFits setup) (all : AllByRecursion DoingFits doings) (fresh : FreshIsns setup most doings) where
  abbrev w : World
  w = past setup most doings

  abbrev s : StackState
  s = stack_of (twins setup most doings) e

  -- the clock goes on first
  abbrev t : Turn
  t = clocked coming.now s

  abbrev us : List UserSession
  us = user_sessions setup most doings e

  abbrev firsts : List Event
  firsts = events_by (pair_of setup e) e t.events t.outcomes ++ []

  abbrev w1 : World
  w1 = run_from setup w firsts

  stood : BothStand setup w (twins setup most doings) (user_sessions setup most doings)
  stood = doings_go setup (empty setup) (new_twins setup most) (λ e. []) doings (begins_stand setup most) fresh

  -- the turn as a call that tells nothing
  abbrev ticks : Did
  ticks = record { stack = t.stack; events = t.events; outcomes = t.outcomes; answer = Rests }

  ticked : Goes (pair_of setup e) w e w1 t.stack.rows t.stack.node us
  ticked = plain_goes setup w e s us (stood.at e) (Output coming.now) ticks refl (clocked_plain coming.now s) (quiet_told (pair_of setup e) t.events t.outcomes us (clocked_makes IsQuiet coming.now (λ o us. refl) s)) (fresh e)

  -- the facts of a link hold after it
  inv1 : CallFits (Input coming) → Inv setup w1
  inv1 f =
      let events = link_events setup most doings in
      let firsts_fit = joined_fit (events_by (pair_of setup e) e t.events t.outcomes) [] (events_fit (pair_of setup e) e t.events t.outcomes (clocked_makes PlainFits coming.now f.0 s)) tt in
      subst (Inv setup) (run_split setup (empty setup) events firsts) (run_inv setup fits (events ++ firsts) (joined_fit events firsts (events_fit_all setup most doings all) firsts_fit))

  -- the link after the call that tells a reset
  abbrev d : Did
  d = bytes_received coming (reading coming.bytes) t.stack

  abbrev injected : Event
  injected = AtEnd e (action.Inject coming.bytes)

  doing_is : is_for (pair_of setup e) (reading coming.bytes) ≡ true → HeardReset (pair_of setup e) coming.bytes (reading coming.bytes) t.stack d
      → events_by (pair_of setup e) e (t.events ++ d.events) (t.outcomes ++ d.outcomes) ≡ events_by (pair_of setup e) e t.events t.outcomes ++ injected ∷ []
  doing_is mine h =
      let pair = pair_of setup e in
      let f = clocked_plain coming.now s in
      let os = node_outcomes_from most_ends s.rows s.node t.events in
      let last : events_by pair e d.events d.outcomes ≡ injected ∷ [] = ap (λ (l : List NodeEvent). events_by pair e l d.outcomes) h.events ∙ ap (events_by pair e (event.Inject coming.bytes ∷ [])) h.outcomes ∙ rw mine refl in
      ap (λ (l : List NodeOutcome). events_by pair e (t.events ++ d.events) (l ++ d.outcomes)) f.told ∙ events_more pair e s.rows s.node t.events d.events d.outcomes
      ∙ ap (λ (l : List NodeOutcome). events_by pair e t.events l ++ events_by pair e d.events d.outcomes) (sym f.told) ∙ ap (λ (l : List Event). events_by pair e t.events t.outcomes ++ l) last

  world_is : is_for (pair_of setup e) (reading coming.bytes) ≡ true → HeardReset (pair_of setup e) coming.bytes (reading coming.bytes) t.stack d
      → past setup most (doings ++ record { end = e; what = Input coming } ∷ []) ≡ (step setup w1 injected).world
  unfolding call
  world_is mine h =
      let doing : Doing = record { end = e; what = Input coming } in
      let both = twins setup most doings in
      let events = link_events setup most doings in
      let one = doing_events setup both doing in
      let first = events_by (pair_of setup e) e t.events t.outcomes in
      let made : one ≡ first ++ injected ∷ [] = append-nil (events_by (pair_of setup e) e (t.events ++ d.events) (t.outcomes ++ d.outcomes)) ∙ doing_is mine h in
      ap (run_from setup (empty setup)) (links_more setup (new_twins setup most) doings (doing ∷ []))
      ∙ run_split setup (empty setup) events (one ++ [])
      ∙ ap (run_from setup w) (append-nil one ∙ made)
      ∙ run_split setup w first (injected ∷ [])
      ∙ ap (λ (x : World). (step setup x injected).world) (ap (run_from setup w) (sym (append-nil first)))

  answered_reset : TellsReset (call (Input coming) s).answer → TellsReset d.answer
  unfolding call
  answered_reset tells = tells

  pub reset_by_abort : ResetByAbort setup most doings e coming
  reset_by_abort f mine tells unforged =
      let heard = received_reset (pair_of setup e) coming t.stack (reading coming.bytes) mine (answered_reset tells) in
      let lives : IsLive (Some heard.end) (live (side w1 e).sessions) = subst (λ (o : Option EndState). IsLive o (live (side w1 e).sessions)) heard.held ticked.here.live_is in
      let came = comes_to setup w1 e coming.bytes heard.end (side w1 e).sessions refl lives in
      let arrives : Arrives setup w1 injected came.came = record {
        session = came.session;
        lives = subst (λ (x : End). live (side w1 x).sessions ≡ Some came.session) (sym came.at) came.lives;
        came = came.history;
      } in
      let answer : came.came.answer ≡ Reset = came.answer ∙ same_answer setup (side w1 e) e t.stack.rows t.stack.node us heard.end (reading coming.bytes) ticked.here ∙ heard.answer in
      let none : forgeries (step setup w1 injected).world.history ≡ 0 = ap (λ (x : World). forgeries x.history) (sym (world_is mine heard)) ∙ unforged in
      let at_once = resets_by_abort setup fits w1 injected f.1 (inv1 f) none came.came arrives answer in
      let aborts : PartnerAborted w1 e came.session.state = subst (λ (x : End). PartnerAborted w1 x came.session.state) came.at at_once in
      let one = partner_is_one w1 e came.session.state aborts.session aborts.is_partner in
      let before = held_before (pair_of setup e) coming.now s heard.end heard.held in
      let peer : (before.0).peer_isn ≡ Some aborts.session.state.isn = before.2 ∙ ap (λ (x : EndState). x.peer_isn) (sym came.state) ∙ one.0.here in
      let others = user_sessions setup most doings (other e) in
      let told : AreTold (side w1 (other e)).sessions others = subst (λ (l : LinkSide). AreTold l.sessions others) (sym ticked.there) (stood.at (other e)).told in (
        before.0,
        before.1,
        one_found (λ (v : UserSession). ((before.0).peer_isn ≡ Some v.isn) × (v.aborted ≡ true)) (side w1 (other e)).sessions others aborts.session.state.isn aborts.session told one.1
            (λ v k. (peer ∙ ap (λ (n : ℕ). Some n) k.isn, sym k.aborted ∙ aborts.aborted)),
      )
