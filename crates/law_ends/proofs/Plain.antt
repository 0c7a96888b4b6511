-- What plain events of a node do to a link and to the node that it mirrors.
use Rattle.std.proofs.Common.{◌≡◌, ℕ, Bool, true, false, not, ◌&&◌, ◌||◌, List, [], ◌∷◌, ◌++◌, Option, Some, None, if◌then◌else◌, refl, sym, ap, ◌∙◌, subst}
use Rattle.std.specs.Prelude.{option_map}
use Rattle.book_base.specs.declared.address.Pair.{Pair}
use Rattle.book_base.specs.declared.end.End.{End}
use Rattle.book_segments.specs.Segments.{Segment, Reading, Read, Bad as Unread, reading, pair_reached}
use Rattle.book_keys.specs.Rows.{Row}
use Rattle.book_endpoint.specs.declared.phase.Phase.{Phase}
use Rattle.book_endpoint.specs.declared.phase.Phase.TheVariants.{TimeWait}
use Rattle.book_endpoint.specs.States.{EndState, is_due, tick_in, tick}
use Rattle.book_endpoint.specs.Arrivals.{Arrived, arrive}
use Rattle.book_link.specs.Worlds.{other, Setup, pair_of, Session, World, side, live}
use Rattle.book_link.specs.Steps.{come, ticked, with_clock, view_of}
use Rattle.book_link.specs.Runs.{run_from}
use Rattle.book_cmd_node.specs.declared.node.Act.{Act as NodeAct}
use Rattle.book_cmd_node.specs.declared.node.Act.TheVariants as act
use Rattle.book_cmd_node.specs.declared.node.NodeEvent.{NodeEvent}
use Rattle.book_cmd_node.specs.declared.node.NodeEvent.TheVariants as event
use Rattle.book_cmd_node.specs.NodeRuns.{NodeState, NodeStep, NodeOutcome, DatagramAnswered, Delivered, called, arrived_at, injected, held_end, most_ends, same_pair, node_step, node_from, node_outcomes_from}
use Rattle.law_node.specs.Alone.{is_for, is_mine}
use Rattle.law_node.proofs.Held.{end_ticked, once_ticked}
use Rattle.law_node.proofs.Pairs.{same_pair_is}
use Rattle.law_node.proofs.Steps.{alone, end_of_only, once_step, other_step}
use Rattle.law_link.proofs.Histories.{run_split}
use Rattle.law_link.proofs.Tests.{choose}
use Rattle.law_ends.specs.Users.{UserSession, at_newest, has_isn, after_act, after_take, was_performed, AreFresh, AreTold}
use Rattle.law_ends.specs.Links.{IsLive, is_refusal, plain_events, answered_events, events_by}
use Rattle.law_ends.proofs.Stays.{UserPart, part_of, arrive_part}
use Rattle.law_ends.proofs.Standing.{Stands, Goes, goes_put, goes_still, quiet_goes}
use Rattle.law_ends.proofs.Acting.{act_by}

-- ---- what users know after plain events

abbrev pub plain_told : NodeEvent → NodeOutcome → List UserSession → List UserSession
plain_told (event.On q a) o us = after_act a o us
plain_told _ o us = us

abbrev pub answered_told : Pair → NodeEvent → NodeOutcome → List UserSession → List UserSession
answered_told pair e o us = if is_mine pair e then plain_told e o us else us

abbrev pub told_by : Pair → List NodeEvent → List NodeOutcome → List UserSession → List UserSession
told_by pair (e ∷ es) (o ∷ os) us = told_by pair es os (answered_told pair e o us)
told_by pair _ _ us = us

-- ---- numbers that are fresh were so before

newest_fresh : (change : UserSession → UserSession) → ((u : UserSession) → (change u).isn ≡ u.isn) → (us : List UserSession) → AreFresh (at_newest change us) → AreFresh us
newest_fresh change same [] h = h
newest_fresh change same (u ∷ us) h = (subst (λ (n : ℕ). has_isn n us ≡ false) (same u) h.0, h.1)

performed_fresh : (b : Bool) (change : UserSession → UserSession) → ((u : UserSession) → (change u).isn ≡ u.isn) → (us : List UserSession) → AreFresh (if b then at_newest change us else us) → AreFresh us
performed_fresh true change same us h = newest_fresh change same us h
performed_fresh false change same us h = h

opened_fresh : (b : Bool) (u : UserSession) (us : List UserSession) → AreFresh (if b then u ∷ us else us) → AreFresh us
opened_fresh true u us h = h.1
opened_fresh false u us h = h

take_fresh : (o : NodeOutcome) (us : List UserSession) → AreFresh (after_take o us) → AreFresh us
take_fresh (Delivered bytes shown) us h = newest_fresh (λ u. record u { took = u.took ++ bytes; ended = u.ended || shown }) (λ u. refl) us h
take_fresh _ us h = h

pub act_fresh : (a : NodeAct) (o : NodeOutcome) (us : List UserSession) → AreFresh (after_act a o us) → AreFresh us
act_fresh (act.Open isn) o us h = opened_fresh (was_performed o) _ us h
act_fresh (act.Listen isn) o us h = opened_fresh (was_performed o) _ us h
act_fresh (act.Start isn peer) o us h = opened_fresh (was_performed o) _ us h
act_fresh (act.Give piece) o us h = performed_fresh (was_performed o) (λ u. record u { gave = u.gave ++ piece }) (λ u. refl) us h
act_fresh (act.Take count) o us h = take_fresh o us h
act_fresh act.Close o us h = performed_fresh (was_performed o) (λ u. record u { closed = true }) (λ u. refl) us h
act_fresh act.Abort o us h = performed_fresh (was_performed o) (λ u. record u { aborted = true }) (λ u. refl) us h
act_fresh act.Send o us h = h
act_fresh act.Resend o us h = h
act_fresh act.Remove o us h = h

plain_fresh : (e : NodeEvent) (o : NodeOutcome) (us : List UserSession) → AreFresh (plain_told e o us) → AreFresh us
plain_fresh (event.On q a) o us h = act_fresh a o us h
plain_fresh (event.Clock seconds) o us h = h
plain_fresh (event.Inject bytes) o us h = h

answered_fresh : (pair : Pair) (e : NodeEvent) (o : NodeOutcome) (us : List UserSession) → AreFresh (answered_told pair e o us) → AreFresh us
answered_fresh pair e o us = at (is_mine pair e)
  where
    at : (v : Bool) → AreFresh (if v then plain_told e o us else us) → AreFresh us
    at true h = plain_fresh e o us h
    at false h = h

pub told_fresh : (pair : Pair) (es : List NodeEvent) (os : List NodeOutcome) (us : List UserSession) → AreFresh (told_by pair es os us) → AreFresh us
told_fresh pair [] os us h = h
told_fresh pair (e ∷ es) [] us h = h
told_fresh pair (e ∷ es) (o ∷ os) us h = answered_fresh pair e o us (told_fresh pair es os (answered_told pair e o us) h)

-- ---- the clock

tick_part : (s : EndState) (now : ℕ) (phase : Phase) → part_of (tick_in phase now s) ≡ part_of s
tick_part s now TimeWait = choose (λ (x : EndState). part_of x ≡ part_of s) (is_due s.deadline now) _ s (λ t. refl) (λ t. refl)
tick_part s now _ = refl

ticked_told : (now : ℕ) (sessions : List Session) (us : List UserSession) → AreTold sessions us → AreTold (ticked now sessions) us
ticked_told now [] us h = h
ticked_told now (s ∷ rest) [] h = absurd h
ticked_told now (s ∷ rest) (u ∷ us) h =
    let same = tick_part s.state now s.state.phase in
    let t = h.0 in (
      record {
        isn = ap (λ (p : UserPart). p.isn) same ∙ t.isn;
        gave = ap (λ (p : UserPart). p.given) same ∙ t.gave;
        took = ap (λ (p : UserPart). p.taken) same ∙ t.took;
        ended = t.ended;
        closed = λ e. t.closed (sym (ap (λ (p : UserPart). p.closing) same) ∙ e);
        aborted = ap (λ (p : UserPart). p.aborted) same ∙ t.aborted;
      },
      h.1,
    )

ticked_live : (now : ℕ) (o : Option EndState) (sessions : List Session) → IsLive o (live sessions) → IsLive (option_map (tick now) o) (live (ticked now sessions))
ticked_live now None sessions h = tt
ticked_live now (Some u) [] h = let none = h.1 in absurd (cc)
ticked_live now (Some u) (s ∷ rest) h =
    let same : s.state ≡ u = at (Some s) (h.0) h.1 h.2 in
    (record { state = tick now s.state; end_shown = s.end_shown }, refl, ap (tick now) same)
  where
    at : (o : Option Session) (t : Session) → Some s ≡ Some t → t.state ≡ u → s.state ≡ u
    at o t e f = let same : s ≡ t = cc in ap (λ (x : Session). x.state) same ∙ f

module _ (setup : Setup) (w : World) (e : End) (rows : List Row) (n : NodeState) (us : List UserSession) (h : Stands (pair_of setup e) (side w e) rows n us) where
  -- the link after an event that is the connection's, or isn't, where the node made this step
  abbrev GoesOn : Bool → NodeEvent → NodeStep → Type 0
  GoesOn mine event step =
      Goes (pair_of setup e) w e (run_from setup w (if mine && not (is_refusal step.outcome) then plain_events e event else [])) rows step.node (if mine then plain_told event step.outcome us else us)

  clock_by : (seconds : ℕ) → GoesOn true (event.Clock seconds) (node_step most_ends rows n (event.Clock seconds))
  clock_by seconds =
      let node = (node_step most_ends rows n (event.Clock seconds)).node in
      goes_put (pair_of setup e) w e (with_clock (side w e) seconds) None rows node us (record {
        rows_are = h.rows_are;
        clock_is = refl;
        live_is = subst (λ (o : Option EndState). IsLive o (live (ticked seconds (side w e).sessions))) (sym (end_ticked (pair_of setup e) seconds n.ends)) (ticked_live seconds (held_end (pair_of setup e) n.ends) (side w e).sessions h.live_is);
        once = once_ticked (pair_of setup e) seconds n.ends h.once;
        told = ticked_told seconds (side w e).sessions us h.told;
      })

  -- an event of another connection
  other_by : (event : NodeEvent) → is_mine (pair_of setup e) event ≡ false → GoesOn false event (node_step most_ends rows n event)
  other_by event off =
      let pair = pair_of setup e in
      let node = (node_step most_ends rows n event).node in
      let same : alone pair node ≡ alone pair n = other_step most_ends rows pair n event off in
      let clock : node.clock ≡ n.clock = ap (λ (x : NodeState). x.clock) same in
      let ends : held_end pair node.ends ≡ held_end pair n.ends = sym (end_of_only pair (held_end pair node.ends)) ∙ ap (λ (x : NodeState). held_end pair x.ends) same ∙ end_of_only pair (held_end pair n.ends) in
      goes_still pair w e rows node us (record {
        rows_are = h.rows_are;
        clock_is = h.clock_is ∙ sym clock;
        live_is = subst (λ (o : Option EndState). IsLive o (live (side w e).sessions)) (sym ends) h.live_is;
        once = once_step most_ends rows pair n event h.once;
        told = h.told;
      })

  arrived_by : (bytes : List ℕ) (d : Segment) (o : Option EndState) → reading bytes ≡ Read d → held_end (pair_of setup e) n.ends ≡ o → GoesOn true (event.Inject bytes) (arrived_at rows n (pair_of setup e) (Read d) o)
  arrived_by bytes d None is held = goes_still (pair_of setup e) w e rows n us h
  arrived_by bytes d (Some u) is held =
      let pair = pair_of setup e in
      let a = arrive rows pair n.clock u (Read d) in
      let v = view_of setup w e in
      let same : arrive (side w e).rows pair (side w e).clock u (reading bytes) ≡ a =
      ap (arrive (side w e).rows pair (side w e).clock u) is ∙ ap (λ (r : List Row). arrive r pair (side w e).clock u (Read d)) h.rows_are ∙ ap (λ (c : ℕ). arrive rows pair c u (Read d)) h.clock_is in
      quiet_goes pair w e rows n us u (come bytes v) (called a.state (DatagramAnswered a.answer)) held h (ap (λ (x : Arrived). x.state) same)
      (λ s. (arrive_part (side w e).rows pair (side w e).clock s (reading bytes), refl))

  inject_by : (bytes : List ℕ) (r : Reading) → reading bytes ≡ r → is_for (pair_of setup e) r ≡ true → GoesOn true (event.Inject bytes) (injected rows n r)
  inject_by bytes (Unread fault) is mine = absurd (cc)
  inject_by bytes (Read d) is mine =
      subst (λ (p : Pair). GoesOn true (event.Inject bytes) (arrived_at rows n p (Read d) (held_end p n.ends))) (sym (same_pair_is (pair_reached d) (pair_of setup e) mine))
      (arrived_by bytes d (held_end (pair_of setup e) n.ends) is refl)

  on_by : (q : Pair) (a : NodeAct) → same_pair q (pair_of setup e) ≡ true → AreFresh (after_act a (node_step most_ends rows n (event.On q a)).outcome us) → GoesOn true (event.On q a) (node_step most_ends rows n (event.On q a))
  on_by q a mine =
      subst (λ (p : Pair). AreFresh (after_act a (node_step most_ends rows n (event.On p a)).outcome us) → GoesOn true (event.On p a) (node_step most_ends rows n (event.On p a)))
      (sym (same_pair_is q (pair_of setup e) mine)) (act_by setup w e rows n us h a (held_end (pair_of setup e) n.ends) refl)

  mine_by : (event : NodeEvent) → is_mine (pair_of setup e) event ≡ true → AreFresh (plain_told event (node_step most_ends rows n event).outcome us) → GoesOn true event (node_step most_ends rows n event)
  mine_by (event.Clock seconds) mine fresh = clock_by seconds
  mine_by (event.Inject bytes) mine fresh = inject_by bytes (reading bytes) refl mine
  mine_by (event.On q a) mine fresh = on_by q a mine fresh

  -- a plain event
  pub event_by : (event : NodeEvent) → AreFresh (answered_told (pair_of setup e) event (node_step most_ends rows n event).outcome us)
      → Goes (pair_of setup e) w e (run_from setup w (answered_events (pair_of setup e) e event (node_step most_ends rows n event).outcome)) rows (node_step most_ends rows n event).node
      (answered_told (pair_of setup e) event (node_step most_ends rows n event).outcome us)
  event_by event = at (is_mine (pair_of setup e) event) refl
    where
      at : (v : Bool) → is_mine (pair_of setup e) event ≡ v → AreFresh (if v then plain_told event (node_step most_ends rows n event).outcome us else us) → GoesOn v event (node_step most_ends rows n event)
      at true is fresh = mine_by event is fresh
      at false is fresh = other_by event is

pub goes_then : (pair : Pair) (w : World) (e : End) (v x : World) (rows : List Row) (n : NodeState) (us : List UserSession) → side v (other e) ≡ side w (other e) → Goes pair v e x rows n us → Goes pair w e x rows n us
goes_then pair w e v x rows n us same h = record { here = h.here; there = h.there ∙ same }

-- plain events
pub events_go : (setup : Setup) (w : World) (e : End) (rows : List Row) (n : NodeState) (us : List UserSession) (events : List NodeEvent) → Stands (pair_of setup e) (side w e) rows n us
    → AreFresh (told_by (pair_of setup e) events (node_outcomes_from most_ends rows n events) us)
    → Goes (pair_of setup e) w e (run_from setup w (events_by (pair_of setup e) e events (node_outcomes_from most_ends rows n events))) rows (node_from most_ends rows n events)
    (told_by (pair_of setup e) events (node_outcomes_from most_ends rows n events) us)
events_go setup w e rows n us [] h fresh = goes_still (pair_of setup e) w e rows n us h
events_go setup w e rows n us (event ∷ events) h fresh =
    let pair = pair_of setup e in
    let step = node_step most_ends rows n event in
    let os = node_outcomes_from most_ends rows step.node events in
    let told = answered_told pair event step.outcome us in
    let one = event_by setup w e rows n us h event (told_fresh pair events os told fresh) in
    let first = answered_events pair e event step.outcome in
    let v = run_from setup w first in
    let rest = events_go setup v e rows step.node told events one.here fresh in
    subst (λ (x : World). Goes pair w e x rows (node_from most_ends rows step.node events) (told_by pair events os told)) (sym (run_split setup w first (events_by pair e events os)))
    (goes_then pair w e v (run_from setup v (events_by pair e events os)) rows (node_from most_ends rows step.node events) (told_by pair events os told) one.there rest)
