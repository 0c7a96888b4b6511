-- The timer of an end runs while something that it sent isn't acknowledged.
use Rattle.std.proofs.Common.{◌≡◌, ℕ, zero, suc, ◌+◌, ◌-◌, ◌<◌, ◌≤◌, ◌==◌, min, max, Bool, true, false, not, ◌&&◌, nat_lt, List, [], ◌∷◌, ◌++◌, length, replicate, Option, Some, None, if◌then◌else◌, refl, sym, ap, ◌∙◌, subst, arith, Ok, Err}
use Rattle.std.specs.Prelude.{⊤, is_some}
use Rattle.book_base.specs.declared.address.Pair.{Pair}
use Rattle.book_base.specs.declared.end.End.{End}
use Rattle.book_base.specs.declared.end.End.TheVariants.{A, B}
use Rattle.book_segments.specs.Segments.{Segment, Reading, Read, Bad as Unread, reading, good}
use Rattle.book_segments.proofs.Fields.{lt_is, lt_not, some_is}
use Rattle.book_keys.specs.Coordination.{Sending, follow, choose as choose_row}
use Rattle.book_keys.specs.Lifetimes.{greatest_time}
use Rattle.book_keys.specs.Rows.{Row}
use Rattle.book_keys.specs.Tables.{Adding, AddedAs, TooMany, OverlapsRow, adding, withdrawn}
use Rattle.book_endpoint.specs.declared.phase.Phase.{Phase}
use Rattle.book_endpoint.specs.declared.phase.Phase.TheVariants.{Listen, SynSent, Closed, TimeWait}
use Rattle.book_endpoint.specs.declared.arrival.Arrival.TheVariants.{Foreign, Checksum, Closed as AtClosed}
use Rattle.book_endpoint.specs.States.{EndState, is_closed, room, gives, close_in, is_due, tick_in, connected, listening, started}
use Rattle.book_endpoint.specs.Verdicts.{Judgement}
use Rattle.book_endpoint.specs.Arrivals.{Arrived, unmoved, from_peer, judged_by, arrive}
use Rattle.endpoint_steps.specs.Arriving.{arrive_judged, arrive_read}
use Rattle.book_endpoint.specs.Emissions.{Draft, Emitted, Quiet, NoKey, Emits, is_sending, is_silent, is_syn_sent, is_syn_received, rst_draft, syn_draft, syn_ack_draft, data_draft, again_draft, fin_draft, fin_again_draft, ack_draft, sends_data, sends_fin, fitting, resends, is_blocked, most_bytes, seal_known, emit, resend, blank}
use Rattle.endpoint_steps.specs.Drafting.{to_emit, unacknowledged, probe, to_resend, keyed, emitted}
use Rattle.endpoint_steps.proofs.Drafting.{emit_by_drafts, resend_by_drafts}
use Rattle.book_endpoint.specs.States.{given_end}
use Rattle.endpoint_steps.proofs.Arriving.{read_by_cases}
use Rattle.book_macs.specs.Contexts.{context_of}
use Rattle.book_link.specs.declared.event.Fixing.{Fixing}
use Rattle.book_link.specs.declared.event.Transmission.{Transmission}
use Rattle.book_link.specs.declared.event.Transmission.TheVariants.{New, Again}
use Rattle.book_link.specs.Alterations.{has_place, altered}
use Rattle.book_link.specs.declared.event.Event.{Event}
use Rattle.book_link.specs.declared.event.Event.TheVariants as event
use Rattle.book_link.specs.declared.event.Action.TheVariants as action
use Rattle.book_link.specs.Outcomes.{Outcome, Idle, Nothing}
use Rattle.book_keys.specs.Tables.{row_of_new}
use Rattle.book_link.specs.Runs.{empty}
use Rattle.book_link.specs.Steps.{View, Act, Stepped, acted, act_on, on_live, begin, given, sent, send, send_again, come, took, deliver, alter, add_row, withdraw, ticked, step, view_of}
use Rattle.book_link.specs.Worlds.{other, Setup, pair_of, Session, Made, World, side, find, live, segment_named}
use Rattle.law_link.proofs.Phases.{waits}
use Rattle.law_link.proofs.Sessions.{both}
use Rattle.law_link.proofs.Tests.{choose}
use Rattle.law_link.proofs.Drafts.{sends_fin_says}
use Rattle.book_segments.proofs.Fields.{and_tells}
use Rattle.book_cmd_link.specs.declared.timed.TimedEvent.{TimedEvent}
use Rattle.book_cmd_link.specs.declared.timed.TimedEvent.TheVariants.{Plain, Wait}
use Rattle.std.specs.Option.{option_or}
use Rattle.book_link.specs.SendFronts.{SendFront, front_of, front_at}
use Rattle.book_cmd_link.specs.TimedRuns.{Watch, new_watch, Progress, watch_of, with_watch, started_anew, stopped, sampled_by, watch_by, newly_timed, untimed_by, transmission_of, is_done, is_sent, plain, Expanded, before, reading_at, until, due, after_expiry, expiry, waited, timed_event, expand_from, begins_timed, expand, by_expiry, due_at, expired_then}
use Rattle.law_progress.specs.Waits.{WaitsResend}
use Rattle.law_progress.proofs.Calm.{Calm, AllCalm, AllCalms, is_before, calm_step}
use Rattle.law_progress.proofs.Finishing.{LeavesIf, closed_arrives, emits_leave, resends_leave}
use Rattle.law_progress.proofs.Onward.{check_on}

-- ---- what a call does to a front

-- nothing acknowledged is taken back, and a closed end stays closed
record Holds (s t : EndState) : Type 0 where
  una : s.una ≤ t.una
  shut : is_closed s.phase ≡ true → is_closed t.phase ≡ true

holds_refl : (s : EndState) → Holds s s
holds_refl s = record { una = omega arith; shut = λ e. e }

closed_is : (phase : Phase) → is_closed phase ≡ true → phase ≡ Closed
closed_is Closed e = refl
closed_is _ e = absurd (cc)

sending_open : (phase : Phase) → is_sending phase ≡ true → is_closed phase ≡ true → ⊥
sending_open phase on shut = let is = closed_is phase shut in let off = ap is_sending is in absurd (cc)

abbrev MayShut : Option Draft → Type 0
MayShut None = ⊤
MayShut (Some out) = is_closed out.state.phase ≡ true

emit_shut : (s : EndState) (most : ℕ) → is_closed s.phase ≡ true → MayShut (to_emit s most)
unfolding to_emit
emit_shut s most shut =
    let P = MayShut in
    choose P s.rst_owed (Some (rst_draft s)) _ (λ t. shut) (λ e1.
    choose P (is_syn_sent s.phase && (s.next == s.isn)) (Some (syn_draft s (record s { next = s.isn + 1 }))) _ (λ t. shut) (λ e2.
    choose P (is_syn_received s.phase && (s.next == s.isn)) (Some (syn_ack_draft s (record s { next = s.isn + 1 }))) _ (λ t. shut) (λ e3.
    choose P (sends_data s) (Some (data_draft s (fitting s most))) _ (λ t. shut) (λ e4.
    choose P (sends_fin s) (Some (fin_draft s)) _ (λ t. absurd (sending_open s.phase (sends_fin_says s t).0 shut)) (λ e5.
    choose P (s.ack_owed && not (is_silent s.phase)) (Some (ack_draft s)) None (λ t. shut) (λ t. tt))))))

resend_shut : (s : EndState) (most : ℕ) → is_closed s.phase ≡ true → MayShut (to_resend s most)
unfolding to_resend
resend_shut s most shut =
    let P = MayShut in
    choose P (is_syn_sent s.phase && nat_lt s.isn s.next) (Some (syn_draft s s)) _ (λ t. shut) (λ e1.
    choose P (is_syn_received s.phase && nat_lt s.isn s.next) (Some (syn_ack_draft s s)) _ (λ t. shut) (λ e2.
    choose P (resends s.phase && nat_lt s.una s.next) (Some (unacknowledged s most)) _
    (λ t. choose (λ (d : Draft). is_closed d.state.phase ≡ true) (nat_lt s.una (given_end s)) (again_draft s (min (s.next - s.una) most)) (fin_again_draft s) (λ g. shut) (λ g. shut)) (λ e3.
    choose P (is_blocked s) (probe s) None
    (λ t. let on = (and_tells (is_sending s.phase) (s.una == s.next) (and_tells (is_sending s.phase && (s.una == s.next)) (s.send_window == 0) t).0).0 in absurd (sending_open s.phase on shut))
    (λ t. tt))))

module _ (v : View) (pair : Pair) (s : EndState) (without : Outcome) (shut : is_closed s.phase ≡ true) where
  sealed_shut : (out : Draft) (sending : Sending) (o : Option (List ℕ)) → is_closed out.state.phase ≡ true → is_closed (sent v s without (seal_known pair s out sending o)).state.phase ≡ true
  sealed_shut out sending None f = shut
  sealed_shut out sending (Some c) f = f

  keyed_shut : (sending : Sending) (o : Option Draft) → MayShut o → is_closed (sent v s without (keyed pair s sending o)).state.phase ≡ true
  keyed_shut sending None f = shut
  keyed_shut sending (Some out) f = sealed_shut out sending (context_of (blank pair s out sending) (Some s.isn) s.peer_isn) f

  emitted_shut : (draft : ℕ → Option Draft) (o : Option Sending) → ((most : ℕ) → MayShut (draft most)) → is_closed (sent v s without (emitted pair s draft o)).state.phase ≡ true
  emitted_shut draft None f = choose (λ (x : Emitted). is_closed (sent v s without x).state.phase ≡ true) (is_some (draft 0)) NoKey Quiet (λ t. shut) (λ t. shut)
  emitted_shut draft (Some sending) f = keyed_shut sending (draft (most_bytes pair s sending)) (f (most_bytes pair s sending))

sent_una : (v : View) (s : EndState) (without : Outcome) (r : Emitted) → LeavesIf s r → s.una ≤ (sent v s without r).state.una
sent_una v s without Quiet h = omega arith
sent_una v s without NoKey h = omega arith
sent_una v s without (Emits out) h = let una = h.una in omega arith

send_holds : (setup : Setup) (e : End) (w : World) (s : EndState) → Holds s (send (view_of setup w e) s).state
send_holds setup e w s = record {
  una = sent_una (view_of setup w e) s Idle (emit (side w e).rows (pair_of setup e) (side w e).clock s) (emits_leave (side w e).rows (pair_of setup e) (side w e).clock s);
  shut = λ shut. subst (λ (x : Emitted). is_closed (sent (view_of setup w e) s Idle x).state.phase ≡ true) (sym (emit_by_drafts (side w e).rows (pair_of setup e) (side w e).clock s))
      (emitted_shut (view_of setup w e) (pair_of setup e) s Idle shut (to_emit s) (choose_row s.current (side w e).rows (pair_of setup e) (side w e).clock) (λ most. emit_shut s most shut));
}

again_holds : (setup : Setup) (e : End) (w : World) (s : EndState) → Holds s (send_again (view_of setup w e) s).state
again_holds setup e w s = record {
  una = sent_una (view_of setup w e) s Nothing (resend (side w e).rows (pair_of setup e) (side w e).clock s) (resends_leave (side w e).rows (pair_of setup e) (side w e).clock s);
  shut = λ shut. subst (λ (x : Emitted). is_closed (sent (view_of setup w e) s Nothing x).state.phase ≡ true) (sym (resend_by_drafts (side w e).rows (pair_of setup e) (side w e).clock s))
      (emitted_shut (view_of setup w e) (pair_of setup e) s Nothing shut (to_resend s) (choose_row s.current (side w e).rows (pair_of setup e) (side w e).clock) (λ most. resend_shut s most shut));
}

given_holds : (piece : List ℕ) (s : EndState) → Holds s (given piece s).state
given_holds piece s =
    let P : Act → Type 0 = λ a. Holds s a.state in
    let same : (t : EndState) → t.una ≡ s.una → t.phase ≡ s.phase → Holds s t = λ t una phase. record { una = omega arith; shut = λ e. ap is_closed phase ∙ e } in
    choose P (not (gives s)) _ _ (λ t. holds_refl s) (λ t. choose P (nat_lt (room s) (length piece)) _ _ (λ full. holds_refl s) (λ fits. same (record s { given = s.given ++ piece }) refl refl))

close_holds : (s : EndState) (phase : Phase) → Holds s (close_in phase s)
close_holds s Listen = record { una = omega arith; shut = λ e. refl }
close_holds s SynSent = record { una = omega arith; shut = λ e. refl }
close_holds s Closed = holds_refl s
close_holds s _ = record { una = omega arith; shut = λ e. e }

tick_holds : (s : EndState) (now : ℕ) (phase : Phase) → Holds s (tick_in phase now s)
tick_holds s now TimeWait = choose (Holds s) (is_due s.deadline now) (record s { phase = Closed }) s (λ t. record { una = omega arith; shut = λ e. refl }) (λ t. holds_refl s)
tick_holds s now _ = holds_refl s

waits_before : (phase : Phase) → waits phase ≡ true → is_before phase ≡ true
waits_before Listen e = refl
waits_before SynSent e = refl
waits_before _ e = absurd (cc)

judged_una : (rows : List Row) (pair : Pair) (now : ℕ) (s : EndState) (d : Segment) (j : Judgement) → Calm s → s.una ≤ (arrive_judged rows pair now s d j).state.una
judged_una rows pair now s d (Err why) h = omega arith
judged_una rows pair now s d (Ok p) h = (check_on pair s (follow s.current rows pair p.rnext_key_id now) d p.number now s.phase refl (λ e. let at = h.oldest (waits_before s.phase e) in omega arith)).una

read_una : (rows : List Row) (pair : Pair) (now : ℕ) (s : EndState) (r : Reading) → Calm s → s.una ≤ (arrive_read rows pair now s r).state.una
read_una rows pair now s (Unread fault) h = omega arith
read_una rows pair now s (Read d) h =
    let P : Arrived → Type 0 = λ a. s.una ≤ a.state.una in
    choose P (not (from_peer pair d)) (unmoved s Foreign) _ (λ t. omega arith) (λ t.
    choose P (not (good d)) (unmoved s Checksum) _ (λ t. omega arith) (λ t.
    choose P (is_closed s.phase) (unmoved s AtClosed) (arrive_judged rows pair now s d (judged_by rows pair now s d)) (λ t. omega arith) (λ t. judged_una rows pair now s d (judged_by rows pair now s d) h)))

come_una : (setup : Setup) (e : End) (w : World) (bytes : List ℕ) (s : EndState) → Calm s → s.una ≤ (come bytes (view_of setup w e) s).state.una
come_una setup e w bytes s h = subst (λ (a : Arrived). s.una ≤ a.state.una) (read_by_cases (side w e).rows (pair_of setup e) (side w e).clock s (reading bytes)) (read_una (side w e).rows (pair_of setup e) (side w e).clock s (reading bytes) h)

come_holds : (setup : Setup) (e : End) (w : World) (bytes : List ℕ) (s : EndState) → Calm s → Holds s (come bytes (view_of setup w e) s).state
come_holds setup e w bytes s h = record {
  una = come_una setup e w bytes s h;
  shut = λ shut. ap (λ (r : Arrived). is_closed r.state.phase) (closed_arrives (side w e).rows (pair_of setup e) (side w e).clock s (reading bytes) shut).1 ∙ shut;
}

-- ---- what an event does to the fronts

-- the live sessions of an end before and after
abbrev Goes_on : Option Session → Option Session → Type 0
Goes_on None None = ⊤
Goes_on (Some s) (Some t) = Holds s.state t.state
Goes_on _ _ = ⊥

goes_refl : (o : Option Session) → Goes_on o o
goes_refl None = tt
goes_refl (Some s) = holds_refl s.state

-- the other end's sessions stay, and the live session of this one goes on
record Steps_on (w v : World) (e : End) : Type 0 where
  there : live (side v (other e)).sessions ≡ live (side w (other e)).sessions
  here : Goes_on (live (side w e).sessions) (live (side v e).sessions)

still : (w : World) (e : End) → Steps_on w w e
still w e = record { there = refl; here = goes_refl (live (side w e).sessions) }

act_steps : (w : World) (e : End) (sessions : List Session) (call : EndState → Act) → (side w e).sessions ≡ sessions → AllCalm sessions → ((s : EndState) → Calm s → Holds s (call s).state) → Steps_on w (act_on w e sessions call).world e
act_steps w e [] call is calm holds = still w e
act_steps w A (s ∷ rest) call is calm holds =
    record { there = refl; here = subst (λ (l : List Session). Goes_on (live l) (Some (acted s (call s.state)))) (sym is) (holds s.state calm.0) }
act_steps w B (s ∷ rest) call is calm holds =
    record { there = refl; here = subst (λ (l : List Session). Goes_on (live l) (Some (acted s (call s.state)))) (sym is) (holds s.state calm.0) }

module _ (setup : Setup) (w : World) (calm : AllCalms w) where
  on_steps : (e : End) (call : EndState → Act) → ((s : EndState) → Calm s → Holds s (call s).state) → Steps_on w (on_live w e call).world e
  on_steps e call holds = act_steps w e (side w e).sessions call refl (calm e) holds

  deliver_steps : (e : End) (o : Option Made) → Steps_on w (deliver setup w e o).world e
  deliver_steps e None = still w e
  deliver_steps e (Some m) = on_steps e (come m.bytes (view_of setup w e)) (come_holds setup e w m.bytes)

  alter_steps : (e : End) (place mask : ℕ) (fixing : Fixing) (o : Option Made) → Steps_on w (alter setup w e (record { place = place; mask = mask; fixing = fixing }) o).world e
  alter_steps e place mask fixing None = still w e
  alter_steps e place mask fixing (Some m) =
      choose (λ (x : Stepped). Steps_on w x.world e) (has_place m.bytes place) _ _ (λ t. on_steps e (come (altered m.bytes (record { place = place; mask = mask; fixing = fixing })) (view_of setup w e)) (come_holds setup e w (altered m.bytes (record { place = place; mask = mask; fixing = fixing })))) (λ t. still w e)

  add_steps : (e : End) (o : Adding) → Steps_on w (add_row w e o).world e
  add_steps A (AddedAs n rows) = record { there = refl; here = goes_refl (live w.a.sessions) }
  add_steps B (AddedAs n rows) = record { there = refl; here = goes_refl (live w.b.sessions) }
  add_steps e TooMany = still w e
  add_steps e (OverlapsRow n) = still w e

  withdraw_steps : (e : End) (o : Option (List Row)) → Steps_on w (withdraw w e o).world e
  withdraw_steps e None = still w e
  withdraw_steps A (Some rows) = record { there = refl; here = goes_refl (live w.a.sessions) }
  withdraw_steps B (Some rows) = record { there = refl; here = goes_refl (live w.b.sessions) }

  ticked_goes : (seconds : ℕ) (sessions : List Session) → Goes_on (live sessions) (live (ticked seconds sessions))
  ticked_goes seconds [] = tt
  ticked_goes seconds (s ∷ rest) = tick_holds s.state seconds s.state.phase

  clock_steps : (e : End) (seconds : ℕ) → Steps_on w (step setup w (event.At e (action.Clock seconds))).world e
  clock_steps A seconds = record { there = refl; here = ticked_goes seconds w.a.sessions }
  clock_steps B seconds = record { there = refl; here = ticked_goes seconds w.b.sessions }

-- ---- the timers

-- a timer that runs while something is unacknowledged
abbrev Watched : Option SendFront → Watch → Type 0
Watched o w = (f : SendFront) → o ≡ Some f → f.una < f.next → (d : ℕ) × (w.deadline ≡ Some d)

untimed_same : (which : Transmission) (sent : Bool) (w : Watch) → (untimed_by which sent w).deadline ≡ w.deadline
untimed_same New sent w = refl
untimed_same Again true w = refl
untimed_same Again false w = refl

first_runs : (o : Option ℕ) (d : ℕ) → (k : ℕ) × (option_or o (Some d) ≡ Some k)
first_runs None d = (d, refl)
first_runs (Some k) d = (k, refl)

acknowledged_runs : (now : ℕ) (f : SendFront) (s : Watch) → f.una < f.next → (d : ℕ) × ((if nat_lt f.una f.next then started_anew now s else stopped s).deadline ≡ Some d)
acknowledged_runs now f s low =
    choose (λ (x : Watch). (d : ℕ) × (x.deadline ≡ Some d)) (nat_lt f.una f.next) (started_anew now s) (stopped s) (λ e. (_, refl)) (λ e. let no = lt_not f.una f.next e in absurd (omega arith))

moved_watched : (now : ℕ) (which : Transmission) (old new : SendFront) (w : Watch) → old.una ≤ new.una → Watched (Some old) w → new.una < new.next → (d : ℕ) × ((watch_by now which (Some old) (Some new) w).deadline ≡ Some d)
moved_watched now which old new w up h low =
    let P : Watch → Type 0 = λ x. (d : ℕ) × (x.deadline ≡ Some d) in
    let sample : Watch = sampled_by new.una now w w.timed in
    let more : Watch = record w {
      deadline = option_or w.deadline (started_anew now w).deadline;
      timed = option_or w.timed (newly_timed which new.next now);
    } in
    choose P (nat_lt old.una new.una) (if nat_lt new.una new.next then started_anew now sample else stopped sample) _ (λ e. acknowledged_runs now new sample low) (λ e1.
    choose P (nat_lt old.next new.next) more w (λ e. first_runs w.deadline _) (λ e2.
    let una = lt_not old.una new.una e1 in
    let next = lt_not old.next new.next e2 in
    h old refl (omega arith)))

-- the front of a session, where it isn't closed
abbrev front_if : Bool → Session → Option SendFront
front_if shut s = if shut then None else Some (record { una = s.state.una; next = s.state.next })

pair_watched : (now : ℕ) (which : Transmission) (s t : Session) (w : Watch) (bs bt : Bool) → (bs ≡ true → bt ≡ true) → s.state.una ≤ t.state.una → Watched (front_if bs s) w → Watched (front_if bt t) (watch_by now which (front_if bs s) (front_if bt t) w)
pair_watched now which s t w bs true shut up h f is low = absurd (cc)
pair_watched now which s t w true false shut up h f is low = let off = shut refl in absurd (cc)
pair_watched now which s t w false false shut up h f is low =
    let old : SendFront = record { una = s.state.una; next = s.state.next } in
    let new : SendFront = record { una = t.state.una; next = t.state.next } in
    let same : new ≡ f = some_is new f is in
    moved_watched now which old new w up h (subst (λ (k : SendFront). k.una < k.next) (sym same) low)

between_watched : (now : ℕ) (which : Transmission) (o k : Option Session) (w : Watch) → Goes_on o k → Watched (front_of o) w → Watched (front_of k) (watch_by now which (front_of o) (front_of k) w)
between_watched now which None None w g h f is low = absurd (cc)
between_watched now which None (Some t) w g h f is low = absurd g
between_watched now which (Some s) None w g h f is low = absurd g
between_watched now which (Some s) (Some t) w g h f is low = pair_watched now which s t w (is_closed s.state.phase) (is_closed t.state.phase) g.shut g.una h f is low

untimed_watched : (o : Option SendFront) (which : Transmission) (sent : Bool) (w : Watch) → Watched o w → Watched o (untimed_by which sent w)
untimed_watched o which sent w h f is low = let k = h f is low in (k.0, untimed_same which sent w ∙ k.1)

steps_watched : (w v : World) (e : End) (now : ℕ) (which : Transmission) (made : Bool) (x : Watch) → Steps_on w v e → Watched (front_at w e) x → Watched (front_at v e) (untimed_by which made (watch_by now which (front_at w e) (front_at v e) x))
steps_watched w v e now which made x h watched =
    untimed_watched (front_at v e) which made (watch_by now which (front_at w e) (front_at v e) x) (between_watched now which (live (side w e).sessions) (live (side v e).sessions) x h.here watched)

-- ---- a timed link

-- the timer of each end runs while something is unacknowledged
record IsWatched (p : Progress) : Type 0 where
  calm : AllCalms p.world
  watched : (e : End) → Watched (front_at p.world e) (watch_of p e)

with_watched : (p : Progress) (v : World) (e : End) (x : Watch) → IsWatched p → AllCalms v → live (side v (other e)).sessions ≡ live (side p.world (other e)).sessions → Watched (front_at v e) x → IsWatched (with_watch (record p { world = v }) e x)
with_watched p v A x h calm there here = record {
  calm = calm;
  watched = both (λ (e : End). Watched (front_at v e) (watch_of (with_watch (record p { world = v }) A x) e)) here (subst (λ (o : Option Session). Watched (front_of o) p.b) (sym there) (h.watched B));
}
with_watched p v B x h calm there here = record {
  calm = calm;
  watched = both (λ (e : End). Watched (front_at v e) (watch_of (with_watch (record p { world = v }) B x) e)) (subst (λ (o : Option Session). Watched (front_of o) p.a) (sym there) (h.watched A)) here;
}

-- an event that begins no session
plain_steps : (setup : Setup) (p : Progress) (ev : Event) (e : End) (now : ℕ) (which : Transmission) (made : Bool) → IsWatched p → Steps_on p.world (step setup p.world ev).world e
    → IsWatched (with_watch (record p { world = (step setup p.world ev).world }) e (untimed_by which made (watch_by now which (front_at p.world e) (front_at (step setup p.world ev).world e) (watch_of p e))))
plain_steps setup p ev e now which made h steps =
    let v = (step setup p.world ev).world in
    with_watched p v e (untimed_by which made (watch_by now which (front_at p.world e) (front_at v e) (watch_of p e))) h (calm_step setup p.world ev h.calm) steps.there
    (steps_watched p.world v e now which made (watch_of p e) steps (h.watched e))

-- a new session has nothing unacknowledged
begun_watched : (s : Session) (w : Watch) → s.state.una ≡ s.state.next → Watched (front_of (Some s)) w
begun_watched s w same f is low = by_front (is_closed s.state.phase) is
  where
    by_front : (b : Bool) → front_if b s ≡ Some f → (d : ℕ) × (w.deadline ≡ Some d)
    by_front true e = absurd (cc)
    by_front false e =
        let new : SendFront = record { una = s.state.una; next = s.state.next } in
        let at : new ≡ f = some_is new f e in
        let wrong : new.una < new.next = subst (λ (k : SendFront). k.una < k.next) (sym at) low in
        absurd (omega arith)

begin_watched : (setup : Setup) (p : Progress) (ev : Event) (e : End) (s : EndState) (o : Option Session) (now : ℕ) → IsWatched p → AllCalms (begin p.world e s o).world → s.una ≡ s.next
    → let r = begin p.world e s o in
    IsWatched (with_watch (record p { world = r.world }) e (if is_done r.outcome then new_watch else watch_by now New (front_at p.world e) (front_at r.world e) (watch_of p e)))
begin_watched setup p ev e s (Some used) now h calm same =
    with_watched p p.world e (watch_by now New (front_at p.world e) (front_at p.world e) (watch_of p e)) h calm refl (steps_watched p.world p.world e now New false (watch_of p e) (still p.world e) (h.watched e))
begin_watched setup p ev A s None now h calm same =
    let u : Session = record { state = s; end_shown = false } in
    with_watched p (begin p.world A s None).world A new_watch h calm refl (begun_watched u new_watch same)
begin_watched setup p ev B s None now h calm same =
    let u : Session = record { state = s; end_shown = false } in
    with_watched p (begin p.world B s None).world B new_watch h calm refl (begun_watched u new_watch same)

module _ (setup : Setup) where
  by_event : (p : Progress) (ev : Event) (e : End) → IsWatched p → Steps_on p.world (step setup p.world ev).world e
      → let s = step setup p.world ev in
      IsWatched (with_watch (record p { world = s.world }) e (untimed_by (transmission_of ev) (is_sent s.outcome) (watch_by (side s.world e).clock (transmission_of ev) (front_at p.world e) (front_at s.world e) (watch_of p e))))
  by_event p ev e h steps = let s = step setup p.world ev in plain_steps setup p ev e (side s.world e).clock (transmission_of ev) (is_sent s.outcome) h steps

  plain_watched : (p : Progress) (ev : Event) → IsWatched p → IsWatched (plain setup p ev)
  plain_watched p (event.At e (action.Clock seconds)) h = plain_steps setup p (event.At e (action.Clock seconds)) e (side (step setup p.world (event.At e (action.Clock seconds))).world e).clock New false h (clock_steps setup p.world h.calm e seconds)
  plain_watched p (event.At e (action.Connect isn)) h = begin_watched setup p (event.At e (action.Connect isn)) e (connected (pair_of setup e) isn) (find (side p.world e).sessions isn) (side (step setup p.world (event.At e (action.Connect isn))).world e).clock h (calm_step setup p.world (event.At e (action.Connect isn)) h.calm) refl
  plain_watched p (event.At e (action.Listen isn)) h = begin_watched setup p (event.At e (action.Listen isn)) e (listening (pair_of setup e) isn) (find (side p.world e).sessions isn) (side (step setup p.world (event.At e (action.Listen isn))).world e).clock h (calm_step setup p.world (event.At e (action.Listen isn)) h.calm) refl
  plain_watched p (event.At e (action.Start isn peer)) h = begin_watched setup p (event.At e (action.Start isn peer)) e (started (pair_of setup e) isn peer) (find (side p.world e).sessions isn) (side (step setup p.world (event.At e (action.Start isn peer))).world e).clock h (calm_step setup p.world (event.At e (action.Start isn peer)) h.calm) refl
  plain_watched p (event.At e (action.Give piece)) h = by_event p (event.At e (action.Give piece)) e h (on_steps setup p.world h.calm e (given piece) (λ s c. given_holds piece s))
  plain_watched p (event.At e (action.Fill count byte)) h = by_event p (event.At e (action.Fill count byte)) e h (on_steps setup p.world h.calm e (given (replicate count byte)) (λ s c. given_holds (replicate count byte) s))
  plain_watched p (event.At e action.Send) h = by_event p (event.At e action.Send) e h (on_steps setup p.world h.calm e (send (view_of setup p.world e)) (λ s c. send_holds setup e p.world s))
  plain_watched p (event.At e action.Resend) h = by_event p (event.At e action.Resend) e h (on_steps setup p.world h.calm e (send_again (view_of setup p.world e)) (λ s c. again_holds setup e p.world s))
  plain_watched p (event.At e (action.Deliver n)) h = by_event p (event.At e (action.Deliver n)) e h (deliver_steps setup p.world h.calm e (segment_named n p.world.history))
  plain_watched p (event.At e (action.Inject bytes)) h = by_event p (event.At e (action.Inject bytes)) e h (on_steps setup p.world h.calm e (come bytes (view_of setup p.world e)) (come_holds setup e p.world bytes))
  plain_watched p (event.At e (action.Alter n place mask fixing)) h = by_event p (event.At e (action.Alter n place mask fixing)) e h (alter_steps setup p.world h.calm e place mask fixing (segment_named n p.world.history))
  plain_watched p (event.At e (action.Take count)) h = by_event p (event.At e (action.Take count)) e h (on_steps setup p.world h.calm e (took count) (λ s c. record { una = omega arith; shut = λ g. g }))
  plain_watched p (event.At e action.Close) h = by_event p (event.At e action.Close) e h (on_steps setup p.world h.calm e _ (λ s c. close_holds s s.phase))
  plain_watched p (event.At e action.Abort) h = by_event p (event.At e action.Abort) e h (on_steps setup p.world h.calm e _ (λ s c. record { una = omega arith; shut = λ g. refl }))
  plain_watched p (event.At e (action.AddRow row)) h = by_event p (event.At e (action.AddRow row)) e h (add_steps setup p.world h.calm e (adding (side p.world e).rows (row_of_new row)))
  plain_watched p (event.At e (action.Withdraw n)) h = by_event p (event.At e (action.Withdraw n)) e h (withdraw_steps setup p.world h.calm e (withdrawn (side p.world e).rows n))
  plain_watched p (event.Dump n) h = h

  until_watched : (e : End) (to : ℕ) (p : Progress) → IsWatched p → IsWatched (until setup e to p).progress
  until_watched e to p h =
      choose (λ (x : Expanded). IsWatched x.progress) (reading_at p e == to) (record { events = []; progress = p }) (record { events = event.At e (action.Clock to) ∷ []; progress = plain setup p (event.At e (action.Clock to)) }) (λ t. h) (λ t. plain_watched p (event.At e (action.Clock to)) h)

  expired_watched : (e : End) (p : Progress) → IsWatched p → IsWatched (after_expiry e p)
  expired_watched e p h = with_watched p p.world e _ h h.calm refl (λ f is low. (_, refl))

  expiry_watched : (e : End) (to : ℕ) (p : Progress) (others : Progress → Expanded) (next : Option ℕ) → IsWatched p → ((q : Progress) → IsWatched q → IsWatched (others q).progress)
      → IsWatched (by_expiry next to (expired_then setup e p others) (until setup e to p)).progress
  expiry_watched e to p others None h rest = until_watched e to p h
  expiry_watched e to p others (Some d) h rest =
      let r = plain setup (plain setup p (event.At e (action.Clock d))) (event.At e action.Resend) in
      let q = after_expiry e r in
      choose (λ (x : Expanded). IsWatched x.progress) (nat_lt to d) (until setup e to p) (before (expiry e d) (others q)) (λ t. until_watched e to p h)
      (λ t. rest q (expired_watched e r (plain_watched (plain setup p (event.At e (action.Clock d))) (event.At e action.Resend) (plain_watched p (event.At e (action.Clock d)) h))))

  waited_watched : (n : ℕ) (e : End) (to : ℕ) (p : Progress) → IsWatched p → IsWatched (waited n setup e to p).progress
  waited_watched zero e to p h = until_watched e to p h
  waited_watched (suc n) e to p h = expiry_watched e to p (waited n setup e to) (due_at p e) h (λ q watched. waited_watched n e to q watched)

  timed_watched : (p : Progress) (ev : TimedEvent) → IsWatched p → IsWatched (timed_event setup p ev).progress
  timed_watched p (Plain ev) h = plain_watched p ev h
  timed_watched p (Wait e count) h = waited_watched (count + 1) e (min (reading_at p e + count) greatest_time) p h

  expand_watched : (p : Progress) (events : List TimedEvent) → IsWatched p → IsWatched (expand_from setup p events).progress
  expand_watched p [] h = h
  expand_watched p (ev ∷ events) h = expand_watched (timed_event setup p ev).progress events (timed_watched p ev h)

  expiry_again : (e : End) (to : ℕ) (p : Progress) (others : Progress → Expanded) (d : ℕ) → d ≤ to
      → (rest : List Event) × ((by_expiry (Some d) to (expired_then setup e p others) (until setup e to p)).events ≡ event.At e (action.Clock d) ∷ event.At e action.Resend ∷ rest)
  expiry_again e to p others d low =
      let q = after_expiry e (plain setup (plain setup p (event.At e (action.Clock d))) (event.At e action.Resend)) in
      choose (λ (x : Expanded). (rest : List Event) × (x.events ≡ event.At e (action.Clock d) ∷ event.At e action.Resend ∷ rest)) (nat_lt to d) (until setup e to p) (before (expiry e d) (others q))
      (λ t. let over = lt_is to d t in absurd (omega arith)) (λ t. ((others q).events, refl))

  waited_again : (n : ℕ) (e : End) (to : ℕ) (p : Progress) (d : ℕ) → 1 ≤ n → d ≤ to → due_at p e ≡ Some d → (rest : List Event) × ((waited n setup e to p).events ≡ event.At e (action.Clock d) ∷ event.At e action.Resend ∷ rest)
  waited_again zero e to p d some low at = absurd (omega arith)
  waited_again (suc n) e to p d some low at =
      subst (λ (o : Option ℕ). (rest : List Event) × ((by_expiry o to (expired_then setup e p (waited n setup e to)) (until setup e to p)).events ≡ event.At e (action.Clock d) ∷ event.At e action.Resend ∷ rest)) (sym at)
      (expiry_again e to p (waited n setup e to) d low)

  pub waits_resend : (events : List TimedEvent) → WaitsResend setup (expand setup events).progress
  unfolding expand
  waits_resend events e f is low =
      let begun : IsWatched (begins_timed setup) = record {
        calm = both (λ (e : End). AllCalm (side (empty setup) e).sessions) tt tt;
        watched = both (λ (e : End). Watched (front_at (empty setup) e) (watch_of (begins_timed setup) e)) (λ f is low. absurd (cc)) (λ f is low. absurd (cc));
      } in
      let p = (expand_from setup (begins_timed setup) events).progress in
      let h = expand_watched (begins_timed setup) events begun in
      let k = h.watched e f is low in
      let d = max k.0 (reading_at p e + 1) in
      let at : due_at p e ≡ Some d = ap (due (reading_at p e)) k.1 in (
        d,
        at,
        λ count reach.
            waited_again (count + 1) e (min (reading_at p e + count) greatest_time) p d (omega arith) reach at,
      )
