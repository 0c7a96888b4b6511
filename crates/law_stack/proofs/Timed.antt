-- The alarms of each stack are the deadlines of its timers, the earliest first.
use Rattle.std.proofs.Common.{◌≡◌, ℕ, zero, suc, ◌+◌, ◌-◌, ◌*◌, ◌/◌, ◌<◌, ◌≤◌, ◌==◌, Bool, true, false, not, ◌&&◌, nat_lt, nat_le, List, [], ◌∷◌, ◌++◌, length, Option, Some, None, Result, Ok, Err, refl, sym, ap, ◌∙◌, ◌⊎◌, inl, inr, subst, if◌then◌else◌, arith}
use Rattle.std.proofs.lemmas.Bool.Decides.{nat_tests}
use Rattle.std.specs.Prelude.{is_some, min, option_map}
use Rattle.book_base.specs.declared.address.Pair.{Pair}
use Rattle.book_segments.specs.Segments.{Segment, Reading, Read, Bad as Unread, reading}
use Rattle.book_segments.proofs.Fields.{some_is}
use Rattle.book_keys.specs.Rows.{Row}
use Rattle.book_keys.specs.Tables.{Adding, AddedAs, adding, row_of_new, withdrawn}
use Rattle.book_endpoint.specs.declared.arrival.Arrival.{Arrival}
use Rattle.book_endpoint.specs.declared.phase.Phase.{Phase}
use Rattle.book_endpoint.specs.States.{EndState, abort, close, offered, connected, listening, started, tick}
use Rattle.book_endpoint.specs.Arrivals.{arrive}
use Rattle.book_endpoint.specs.Emissions.{emit, resend}
use Rattle.book_endpoint.specs.Verdicts.{Judgement}
use Rattle.book_cmd_node.specs.declared.node.Act.{Act}
use Rattle.book_cmd_node.specs.declared.node.Act.TheVariants as act
use Rattle.book_cmd_node.specs.declared.node.NodeEvent.TheVariants as event
use Rattle.book_cmd_node.specs.NodeRuns.{DatagramAnswered, Called, Performed, NoRoom, ConnectionClosing, node_offers, Held, NothingToSend, InUse, NodeFull, NodeOutcome, NodeState, NodeStep, NothingToResend, Transmitted, NoUsableKey, take_called, called, ends_ticked, held_end, made_called, most_ends, new_end, node_step, on_held, on_pair, same_pair, stays, without_end}
use Rattle.book_segments.specs.Segments.{pair_reached}
use Rattle.book_stack.specs.declared.alarm.Alarm.{Alarm}
use Rattle.book_stack.specs.declared.front.Change.{Change}
use Rattle.book_stack.specs.declared.front.Front.{Front}
use Rattle.book_stack.specs.declared.front.Timed.{Timed}
use Rattle.book_stack.specs.Alarms.{stands_in, with_alarm, without_alarm}
use Rattle.book_stack.specs.Calls.{Call, At, Input, Output, Add, Withdraw, Incoming, Did, Told, added, asked_for, asking, at_other, at_pair, begun, call, bytes_received, after_segment_heard, heard_pair, kept, met, plain_step, stepped, unasked, withdrew}
use Rattle.book_stack.specs.Runs.{stack_after}
use Rattle.book_stack.specs.Stacks.{StackState, asking_judged, asks, empty_stack, forgotten, touched, watched}
use Rattle.book_stack.specs.Turns.{Turn, ask, asked_end, asked_first, asked_line, asked_pair, asked_watch, called_at, change_by, clocked, output_at, passing, repeated_by, spoken_by, then_turn, turns, wake, woken_end, woken_first, woken_pair, woken_watch}
use Rattle.book_stack.specs.Watches.{ConnectionWatch, after_acknowledgement, arrived, at_rest, awaits, hearing, is_heard, is_opening, is_time_wait, moves_on, new_connection_watch, after_handshake, rests_now, running, after_sample, after_sending, timer_started, timer_stopped, time_wait_end, timing}
use Rattle.book_stack.specs.Millis.{sampled_millis, timer_behind_lost_syn}
use Rattle.law_node.proofs.Held.{held, end_ticked, end_with_same}
use Rattle.law_node.proofs.Pairs.{same_pair_is, same_pair-refl}
use Rattle.law_stack.proofs.Called.{call_steps}
use Rattle.law_stack.proofs.Lines.{Queue, drop_line, gone, same_line, tail_line}
use Rattle.law_stack.proofs.Rings.{IsSorted, Rung, alarm_of, alarm_without, due, no_alarm, none_due, pairs_of, pairs_without, ring, sorted_without}
use Rattle.law_stack.proofs.Tidy.{Tidy, is_held_with, length_with, queue_with}
use Rattle.law_stack.proofs.TidyCalls.{call_tidy, empty_tidy}
use Rattle.law_stack.proofs.TidyTurns.{ask_tidy, clocked_tidy, wake_tidy}
use Rattle.law_stack.proofs.Turned.{clocked_anew}

-- ---- the value of a timer is never 0

abbrev pub IsOn : ConnectionWatch → Type 0
IsOn w = 1 ≤ w.timer.value

pub sampled_on : (now : ℕ) (f : Front) (w : ConnectionWatch) (t : Option Timed) → IsOn w → IsOn (after_sample now f w t)
sampled_on now f w None h = h
sampled_on now f w (Some t) h = at (nat_le t.number f.una)
  where
    at : (v : Bool) → IsOn (if v then record w { timer = sampled_millis w.timer (now - t.sent); timed = None } else w)
    at true = omega arith
    at false = h

acknowledged_on : (now : ℕ) (f : Front) (w : ConnectionWatch) → IsOn w → IsOn (after_acknowledgement now f w)
acknowledged_on now f w h = at (nat_lt f.una f.next)
  where
    at : (v : Bool) → IsOn (let t = after_sample now f w w.timed in if v then timer_started now t else timer_stopped t)
    at true = sampled_on now f w w.timed h
    at false = sampled_on now f w w.timed h

hearing_on : (now : ℕ) (c : Change) (w : ConnectionWatch) → IsOn w → IsOn (hearing now c w)
hearing_on now c w h = at (moves_on c)
  where
    at : (v : Bool) → IsOn (if v then record w { heard = now } else w)
    at true = h
    at false = h

opened_on : (c : Change) (w : ConnectionWatch) → IsOn w → IsOn (after_handshake c w)
opened_on c w h = at (w.syn_again && is_opening c.before.phase && not (is_opening c.after.phase))
  where
    at : (v : Bool) → IsOn (if v then record w { timer = timer_behind_lost_syn; syn_again = false } else w)
    at true = omega (arith, h)
    at false = h

rests_on : (now : ℕ) (c : Change) (w : ConnectionWatch) → IsOn w → IsOn (rests_now now c w)
rests_on now c w h = at (is_time_wait c.after.phase && not (is_time_wait c.before.phase))
  where
    at : (v : Bool) → IsOn (if v then record w { deadline = Some (time_wait_end now) } else w)
    at true = h
    at false = h

arrived_on : (now : ℕ) (c : Change) (w : ConnectionWatch) → IsOn w → IsOn (arrived now c w)
arrived_on now c w h =
    let v = after_handshake c (hearing now c w) in
    rests_on now c (if nat_lt c.before.una c.after.una then after_acknowledgement now c.after v else v) (at (nat_lt c.before.una c.after.una))
  where
    before : IsOn (after_handshake c (hearing now c w))
    before = opened_on c (hearing now c w) (hearing_on now c w h)

    at : (b : Bool) → IsOn (if b then after_acknowledgement now c.after (after_handshake c (hearing now c w)) else after_handshake c (hearing now c w))
    at true = acknowledged_on now c.after (after_handshake c (hearing now c w)) before
    at false = before

running_on : (now : ℕ) (w : ConnectionWatch) (o : Option ℕ) → IsOn w → IsOn (running now w o)
running_on now w None h = h
running_on now w (Some d) h = h

timing_on : (now : ℕ) (f : Front) (w : ConnectionWatch) (o : Option Timed) → IsOn w → IsOn (timing now f w o)
timing_on now f w None h = h
timing_on now f w (Some t) h = h

sent_on : (now : ℕ) (c : Change) (w : ConnectionWatch) → IsOn w → IsOn (after_sending now c w)
sent_on now c w h = at (nat_lt c.before.next c.after.next)
  where
    at : (v : Bool) → IsOn (if v then (let r = running now w w.deadline in timing now c.after r r.timed) else w)
    at true = let r = running now w w.deadline in timing_on now c.after r r.timed (running_on now w w.deadline h)
    at false = h

rest_on : (now : ℕ) (phase : Phase) (waits : Bool) (w : ConnectionWatch) → IsOn w → IsOn (at_rest now phase waits w)
rest_on now phase true w h = running_on now w w.deadline h
rest_on now phase false w h = at (is_time_wait phase)
  where
    at : (v : Bool) → IsOn (if v then w else timer_stopped w)
    at true = h
    at false = h

asked_on : (now : ℕ) (c : Change) (waits : Bool) (o : NodeOutcome) (w : ConnectionWatch) → IsOn w → IsOn (asked_watch now c waits o w)
asked_on now c waits (Transmitted x) w h = sent_on now c w h
asked_on now c waits NoUsableKey w h = h
asked_on now c waits _ w h = rest_on now c.after.phase waits w h

woken_on : (now : ℕ) (phase : Phase) (o : NodeOutcome) (w : ConnectionWatch) → IsOn w → IsOn (woken_watch now phase o w)
woken_on now phase (Transmitted x) w h = omega (arith, h)
woken_on now phase NoUsableKey w h = omega (arith, h)
woken_on now phase _ w h = h

-- a timer that went off expires later, or doesn't run
woken_later : (now : ℕ) (phase : Phase) (o : NodeOutcome) (w : ConnectionWatch) → IsOn w → (d : ℕ) → (woken_watch now phase o w).deadline ≡ Some d → now < d
woken_later now phase (Transmitted x) w h d e = omega (arith, h, some_is (now + min (2 * w.timer.value) 60000) d e)
woken_later now phase NoUsableKey w h d e = omega (arith, h, some_is (now + min (2 * w.timer.value) 60000) d e)
woken_later now phase _ w h d e = absurd (cc)

-- ---- the alarms and the timers of a stack

pub record RingsBut (skips : Pair → Bool) (s : StackState) : Type 0 where
  pub sorted : IsSorted s.alarms
  pub queue : Queue (pairs_of s.alarms) s.node.ends
  pub same : (p : Pair) → skips p ≡ false → (s.watches p).deadline ≡ alarm_of p s.alarms
  pub on : (p : Pair) → IsOn (s.watches p)

abbrev pub nobody : Pair → Bool
nobody p = false

abbrev pub Rings : StackState → Type 0
Rings s = RingsBut nobody s

weaker : (skips : Pair → Bool) (s : StackState) → Rings s → RingsBut skips s
weaker skips s h = record { sorted = h.sorted; queue = h.queue; same = λ p skip. h.same p refl; on = h.on }

-- the end of a pair was called
called_rings : (skips : Pair → Bool) (p : Pair) (old : EndState) (c : Called) (s : StackState) → held_end p s.node.ends ≡ Some old → RingsBut skips s → RingsBut skips (called_at p c s)
called_rings skips p old c s was h = record { sorted = h.sorted; queue = queue_with p old c.state (pairs_of s.alarms) s.node.ends was h.queue; same = h.same; on = h.on }

touched_rings : (p : Pair) (s : StackState) → Rings s → Rings (touched p s)
touched_rings p s h = record { sorted = h.sorted; queue = h.queue; same = h.same; on = h.on }

-- the timer of a pair becomes another
watched_rings : (p : Pair) (w : ConnectionWatch) (s : StackState) → is_some (held_end p s.node.ends) ≡ true → length s.node.ends ≤ s.most → IsOn w → RingsBut (same_pair p) s → Rings (watched p w s)
watched_rings p w s held few on h =
    let r = ring s.most p w.deadline s.node.ends s.alarms few held h.sorted h.queue in record {
      sorted = r.sorted;
      queue = r.queue;
      same = λ q skip. same q r (same_pair p q) refl;
      on = λ q. at q (same_pair p q);
    }
  where
    same : (q : Pair) → Rung p w.deadline s.node.ends s.alarms (with_alarm s.most p w.deadline s.alarms) → (v : Bool) → same_pair p q ≡ v
        → (if v then w else s.watches q).deadline ≡ alarm_of q (with_alarm s.most p w.deadline s.alarms)
    same q r true t = sym r.here ∙ ap (λ (x : Pair). alarm_of x (with_alarm s.most p w.deadline s.alarms)) (same_pair_is p q t)
    same q r false t = h.same q t ∙ sym (r.others q t)

    at : (q : Pair) (v : Bool) → IsOn (if v then w else s.watches q)
    at q true = on
    at q false = h.on q

-- the same of a pair that was called before
called_few : (p : Pair) (c : Called) (s : StackState) → Tidy s → length (called_at p c s).node.ends ≤ s.most
called_few p c s h = omega (arith, length_with p c.state s.node.ends, h.ends.few)

held_now : (p : Pair) (old : EndState) (c : Called) (s : StackState) → held_end p s.node.ends ≡ Some old → is_some (held_end p (called_at p c s).node.ends) ≡ true
held_now p old c s was = ap is_some (end_with_same p c.state old s.node.ends was)

-- ---- turns

asked_rings : (now : ℕ) (p : Pair) (e : EndState) (c : Called) (s : StackState) → held_end p s.node.ends ≡ Some e → length s.node.ends ≤ s.most → Rings s → Rings (asked_end now p e c s).stack
asked_rings now p e c s was few h =
    let w = asked_watch now (change_by e c) (awaits c.state) c.outcome (s.watches p) in
    let t = watched p w (called_at p c s) in
    let rings : Rings t = watched_rings p w (called_at p c s) (held_now p e c s was) (omega (arith, length_with p c.state s.node.ends, few)) (asked_on now (change_by e c) (awaits c.state) c.outcome (s.watches p) (h.on p)) (weaker (same_pair p) (called_at p c s) (called_rings nobody p e c s was h)) in
    line c.outcome t rings
  where
    line : (o : NodeOutcome) (t : StackState) → Rings t → Rings (asked_line p o t)
    line (Transmitted x) t h = touched_rings p t h
    line NoUsableKey t h = touched_rings p t h
    line o t h = h

pub ask_rings : (now : ℕ) (s : StackState) → Tidy s → Rings s → Rings (ask now s).stack
ask_rings now s tidy h = at s.line
  where
    pair : (p : Pair) (ps : List Pair) (o : Option EndState) → held_end p s.node.ends ≡ o → Rings (asked_pair now p (record s { line = ps }) o).stack
    pair p ps None was = record { sorted = h.sorted; queue = h.queue; same = h.same; on = h.on }
    pair p ps (Some e) was =
        let t = record s { line = ps } in
        asked_rings now p e (spoken_by t p e) t was tidy.ends.few (record { sorted = h.sorted; queue = h.queue; same = h.same; on = h.on })

    at : (line : List Pair) → Rings (asked_first now s line).stack
    at [] = h
    at (p ∷ ps) = pair p ps (held_end p s.node.ends) refl

-- an alarm that is reached is taken out, and fewer are reached then
pub record Woken (now : ℕ) (s : StackState) (t : Turn) : Type 0 where
  pub rings : Rings t.stack
  pub fewer : (due now t.stack.alarms ≡ 0) ⊎ (due now t.stack.alarms + 1 ≤ due now s.alarms)
  pub handed : is_some t.hands ≡ true → due now t.stack.alarms + 1 ≤ due now s.alarms

woken_rings : (now : ℕ) (p : Pair) (e : EndState) (c : Called) (s : StackState) → held_end p s.node.ends ≡ Some e → length s.node.ends ≤ s.most → RingsBut (same_pair p) s
    → Rings (woken_end now p e c s).stack × (due now (woken_end now p e c s).stack.alarms ≤ due now s.alarms)
woken_rings now p e c s was few h =
    let w = woken_watch now e.phase c.outcome (s.watches p) in
    let t = called_at p c s in
    let held = held_now p e c s was in
    let room : length t.node.ends ≤ s.most = omega (arith, length_with p c.state s.node.ends, few) in
    let b = called_rings (same_pair p) p e c s was h in
    let r = ring s.most p w.deadline t.node.ends s.alarms room held b.sorted b.queue in (
      touched_rings p (watched p w t) (watched_rings p w t held room (woken_on now e.phase c.outcome (s.watches p) (h.on p)) b),
      r.reached now (woken_later now e.phase c.outcome (s.watches p) (h.on p)),
    )

pub wake_rings : (now : ℕ) (s : StackState) → Tidy s → Rings s → Woken now s (wake now s)
wake_rings now s tidy h = at s.alarms refl
  where
    first : (a : Alarm) (rest : List Alarm) → s.alarms ≡ a ∷ rest → RingsBut (same_pair a.pair) (record s { alarms = rest })
    first a rest is =
        let sorted : IsSorted (a ∷ rest) = subst IsSorted is h.sorted in
        let queue : Queue (pairs_of (a ∷ rest)) s.node.ends = subst (λ (xs : List Alarm). Queue (pairs_of xs) s.node.ends) is h.queue in
        record {
          sorted = sorted.1;
          queue = tail_line a.pair (pairs_of rest) s.node.ends queue;
          same = λ q other. h.same q refl ∙ ap (alarm_of q) is ∙ rw other refl;
          on = h.on;
        }

    pair : (a : Alarm) (rest : List Alarm) → s.alarms ≡ a ∷ rest → nat_le a.deadline now ≡ true → (o : Option EndState) → held_end a.pair s.node.ends ≡ o
        → Woken now s (woken_pair now a.pair (record s { alarms = rest }) o)
    pair a rest is reached None was =
        let there : is_some (held_end a.pair s.node.ends) ≡ true = h.queue.held a.pair (ap (λ (xs : List Alarm). stands_in a.pair (pairs_of xs)) is ∙ rw (same_pair-refl a.pair) refl) in absurd (cc)
    pair a rest is reached (Some e) was =
        let t = record s { alarms = rest } in
        let w = woken_rings now a.pair e (repeated_by t a.pair e) t was tidy.ends.few (first a rest is) in
        let one : due now s.alarms ≡ 1 + due now rest = ap (due now) is ∙ rw reached refl in
        record { rings = w.0; fewer = inr (omega (arith, one, w.1)); handed = λ e. omega (arith, one, w.1) }

    over : (a : Alarm) (rest : List Alarm) → s.alarms ≡ a ∷ rest → (v : Bool) → nat_le a.deadline now ≡ v
        → Woken now s (if v then woken_pair now a.pair (record s { alarms = rest }) (held_end a.pair s.node.ends) else passing s)
    over a rest is true reached = pair a rest is reached (held_end a.pair s.node.ends) refl
    over a rest is false reached =
        let sorted : IsSorted (a ∷ rest) = subst IsSorted is h.sorted in
        let later : now < a.deadline = grind (arith, nat_tests, reached) in
        let none : due now s.alarms ≡ 0 = ap (due now) is ∙ rw reached (omega (arith, none_due now a.deadline rest later sorted.0)) in
        record { rings = h; fewer = inl none; handed = λ e. absurd (cc) }

    at : (alarms : List Alarm) → s.alarms ≡ alarms → Woken now s (woken_first now s alarms)
    at [] is = record { rings = h; fewer = inl (ap (due now) is); handed = λ e. absurd (cc) }
    at (a ∷ rest) is = over a rest is (nat_le a.deadline now) refl

-- ---- turns one after another

-- a stack whose timers ring
pub record TidyRings (s : StackState) : Type 0 where
  pub tidy : Tidy s
  pub rings : Rings s

then_rings : (t : Turn) (next : StackState → Turn) → TidyRings t.stack → ((u : StackState) → TidyRings u → TidyRings (next u).stack) → TidyRings (then_turn t next).stack
then_rings t next h go = at (is_some t.hands)
  where
    at : (v : Bool) → TidyRings (let r : Turn = if v then t else (let u = next t.stack in record { stack = u.stack; events = t.events ++ u.events; outcomes = t.outcomes ++ u.outcomes; hands = u.hands }) in r.stack)
    at true = h
    at false = go t.stack h

turns_rings : (n : ℕ) (turn : StackState → Turn) (s : StackState) → TidyRings s → ((u : StackState) → TidyRings u → TidyRings (turn u).stack) → TidyRings (turns n turn s).stack
turns_rings zero turn s h go = h
turns_rings (suc n) turn s h go = then_rings (turn s) (turns n turn) (go s h) (λ u k. turns_rings n turn u k go)

map_is : (f : EndState → EndState) (o : Option EndState) → is_some (option_map f o) ≡ is_some o
map_is f None = refl
map_is f (Some x) = refl

pub clocked_rings : (now : ℕ) (s : StackState) → TidyRings s → TidyRings (clocked now s).stack
clocked_rings now s h = record { tidy = clocked_tidy now s h.tidy; rings = at (s.node.clock == now / 1000) }
  where
    at : (v : Bool) → Rings (let t : Turn = if v then passing s else clocked_anew now s in t.stack)
    at true = h.rings
    at false = record {
      sorted = h.rings.sorted;
      queue = same_line (pairs_of s.alarms) s.node.ends (ends_ticked (now / 1000) s.node.ends) (λ p e. ap is_some (end_ticked p (now / 1000) s.node.ends) ∙ map_is (tick (now / 1000)) (held_end p s.node.ends) ∙ e) h.rings.queue;
      same = h.rings.same;
      on = h.rings.on;
    }

pub ask_both : (now : ℕ) (s : StackState) → TidyRings s → TidyRings (ask now s).stack
ask_both now s h = record { tidy = ask_tidy now s h.tidy; rings = ask_rings now s h.tidy h.rings }

pub wake_both : (now : ℕ) (s : StackState) → TidyRings s → TidyRings (wake now s).stack
wake_both now s h = record { tidy = wake_tidy now s h.tidy; rings = (wake_rings now s h.tidy h.rings).rings }

pub asks_both : (now n : ℕ) (s : StackState) → TidyRings s → TidyRings (turns n (ask now) s).stack
asks_both now n s h = turns_rings n (ask now) s h (ask_both now)

pub output_rings : (now : ℕ) (s : StackState) → TidyRings s → TidyRings (output_at now s).stack
output_rings now s h =
    then_rings (clocked now s) (λ t. then_turn (turns (length t.line) (ask now) t) (λ u. turns (length u.alarms) (wake now) u)) (clocked_rings now s h) (λ t ht.
    then_rings (turns (length t.line) (ask now) t) (λ u. turns (length u.alarms) (wake now) u) (asks_both now (length t.line) t ht) (λ u hu.
    turns_rings (length u.alarms) (wake now) u hu (wake_both now)))

-- ---- calls

-- the act doesn't drop the end
abbrev IsKeeping : Act → Type 0
IsKeeping act.Remove = ⊥
IsKeeping a = Unit {0}

-- who is held stays so, whatever is done but Remove
keeps_held : (rows : List Row) (n : NodeState) (p q : Pair) (e : EndState) (a : Act) → held_end p n.ends ≡ Some e → IsKeeping a → is_some (held_end q (on_held rows n p e a).node.ends) ≡ is_some (held_end q n.ends)
keeps_held rows n p q e (act.Open isn) was k = is_held_with p q e e n.ends was
keeps_held rows n p q e (act.Listen isn) was k = is_held_with p q e e n.ends was
keeps_held rows n p q e (act.Start isn peer) was k = is_held_with p q e e n.ends was
keeps_held rows n p q e (act.Give piece) was k = is_held_with p q e (offered called node_offers piece e).state n.ends was
keeps_held rows n p q e (act.Take count) was k = is_held_with p q e (take_called count e).state n.ends was
keeps_held rows n p q e act.Send was k = is_held_with p q e (made_called e NothingToSend (emit rows p n.clock e)).state n.ends was
keeps_held rows n p q e act.Resend was k = is_held_with p q e (made_called e NothingToResend (resend rows p n.clock e)).state n.ends was
keeps_held rows n p q e act.Close was k = is_held_with p q e (close e) n.ends was
keeps_held rows n p q e act.Abort was k = is_held_with p q e (abort e) n.ends was
keeps_held rows n p q e act.Remove was k = absurd k

kept_rings : (p : Pair) (a : Act) (o : NodeOutcome) (s : StackState) → IsKeeping a → Rings s → Rings (kept p a o s)
kept_rings p act.Remove o s k h = absurd k
kept_rings p a InUse s k h = h
kept_rings p a NoRoom s k h = h
kept_rings p a ConnectionClosing s k h = h
kept_rings p a o s k h = touched_rings p s h

-- a node's step that keeps who is held
stepped_rings : (s : StackState) (step : NodeStep) → ((q : Pair) → is_some (held_end q step.node.ends) ≡ is_some (held_end q s.node.ends)) → Rings s → Rings (stepped s step)
stepped_rings s step keeps h = record {
  sorted = h.sorted;
  queue = same_line (pairs_of s.alarms) s.node.ends step.node.ends (λ q e. keeps q ∙ e) h.queue;
  same = h.same;
  on = h.on;
}

dropped_rings : (p : Pair) (s : StackState) → Rings s → Rings (forgotten p (record s { node = record { clock = s.node.clock; ends = without_end p s.node.ends } }))
dropped_rings p s h = record {
  sorted = sorted_without p s.alarms h.sorted;
  queue = subst (λ (ps : List Pair). Queue ps (without_end p s.node.ends)) (sym (pairs_without p s.alarms)) (drop_line p (pairs_of s.alarms) s.node.ends h.queue);
  same = λ q skip. same q (same_pair p q) refl;
  on = λ q. on q (same_pair p q);
}
  where
    none : alarm_of p (without_alarm p s.alarms) ≡ None
    none = no_alarm p (without_alarm p s.alarms) (ap (stands_in p) (pairs_without p s.alarms) ∙ gone p (pairs_of s.alarms) h.queue.apart)

    same : (q : Pair) (v : Bool) → same_pair p q ≡ v → (if v then new_connection_watch else s.watches q).deadline ≡ alarm_of q (without_alarm p s.alarms)
    same q true t = sym (ap (λ (x : Pair). alarm_of x (without_alarm p s.alarms)) (sym (same_pair_is p q t)) ∙ none)
    same q false t = h.same q refl ∙ sym (alarm_without p q s.alarms t)

    on : (q : Pair) (v : Bool) → IsOn (if v then new_connection_watch else s.watches q)
    on q true = omega arith
    on q false = h.on q

by_keeping : (p : Pair) (a : Act) (e : EndState) (s : StackState) → held_end p s.node.ends ≡ Some e → IsKeeping a → Rings s → Rings (let step = on_held s.rows s.node p e a in kept p a step.outcome (stepped s step))
by_keeping p a e s was k h =
    let step = on_held s.rows s.node p e a in
    kept_rings p a step.outcome (stepped s step) k (stepped_rings s step (λ q. keeps_held s.rows s.node p q e a was k) h)

held_rings : (p : Pair) (a : Act) (e : EndState) (s : StackState) → held_end p s.node.ends ≡ Some e → Rings s → Rings (let step = on_held s.rows s.node p e a in kept p a step.outcome (stepped s step))
held_rings p act.Remove e s was h = dropped_rings p s h
held_rings p (act.Open isn) e s was h = by_keeping p (act.Open isn) e s was tt h
held_rings p (act.Listen isn) e s was h = by_keeping p (act.Listen isn) e s was tt h
held_rings p (act.Start isn peer) e s was h = by_keeping p (act.Start isn peer) e s was tt h
held_rings p (act.Give piece) e s was h = by_keeping p (act.Give piece) e s was tt h
held_rings p (act.Take count) e s was h = by_keeping p (act.Take count) e s was tt h
held_rings p act.Send e s was h = by_keeping p act.Send e s was tt h
held_rings p act.Resend e s was h = by_keeping p act.Resend e s was tt h
held_rings p act.Close e s was h = by_keeping p act.Close e s was tt h
held_rings p act.Abort e s was h = by_keeping p act.Abort e s was tt h

-- whether a pair is held after a step
abbrev holds : Pair → NodeStep → Bool
holds q step = is_some (held_end q step.node.ends)

pushed_still : (p q : Pair) (e : EndState) (hs : List Held) → is_some (held_end q hs) ≡ true → is_some (held_end q (hs ++ held p e ∷ [])) ≡ true
pushed_still p q e [] there = absurd (cc)
pushed_still p q e (h ∷ hs) there = at (same_pair h.pair q) there (pushed_still p q e hs)
  where
    at : (v : Bool) → is_some (if v then Some h.state else held_end q hs) ≡ true → (is_some (held_end q hs) ≡ true → is_some (held_end q (hs ++ held p e ∷ [])) ≡ true)
        → is_some (if v then Some h.state else held_end q (hs ++ held p e ∷ [])) ≡ true
    at true there next = refl
    at false there next = next there

-- a new end
new_keeps : (most : ℕ) (n : NodeState) (p : Pair) (e : EndState) (q : Pair) → is_some (held_end q n.ends) ≡ true → is_some (held_end q (new_end most n p e).node.ends) ≡ true
new_keeps most n p e q there = at (nat_le most (length n.ends))
  where
    at : (v : Bool) → is_some (held_end q (let r : NodeStep = if v then stays n NodeFull else stays (record n { ends = n.ends ++ held p e ∷ [] }) Performed in r.node.ends)) ≡ true
    at true = there
    at false = pushed_still p q e n.ends there

begun_rings : (p : Pair) (a : Act) (s : StackState) → ((q : Pair) → is_some (held_end q s.node.ends) ≡ true → is_some (held_end q (plain_step s (event.On p a)).node.ends) ≡ true) → Rings s → Rings (begun p a s).stack
begun_rings p a s keeps h = at (nat_le s.most (length s.node.ends))
  where
    at : (v : Bool) → Rings (let d : Did = if v then unasked s (Told NodeFull) else (let step = plain_step s (event.On p a) in asking (touched p (stepped s step)) (event.On p a) step.outcome) in d.stack)
    at true = h
    at false =
        let step = plain_step s (event.On p a) in
        record { sorted = h.sorted; queue = same_line (pairs_of s.alarms) s.node.ends step.node.ends keeps h.queue; same = h.same; on = h.on }

other_rings : (p : Pair) (a : Act) (s : StackState) → held_end p s.node.ends ≡ None → Rings s → Rings (at_other p a s).stack
other_rings p (act.Open isn) s none h = begun_rings p (act.Open isn) s (λ q there. ap (holds q) (ap (on_pair most_ends s.rows s.node (record { pair = p; act = (act.Open isn) })) none) ∙ new_keeps most_ends s.node p (connected p isn) q there) h
other_rings p (act.Listen isn) s none h = begun_rings p (act.Listen isn) s (λ q there. ap (holds q) (ap (on_pair most_ends s.rows s.node (record { pair = p; act = (act.Listen isn) })) none) ∙ new_keeps most_ends s.node p (listening p isn) q there) h
other_rings p (act.Start isn peer) s none h = begun_rings p (act.Start isn peer) s (λ q there. ap (holds q) (ap (on_pair most_ends s.rows s.node (record { pair = p; act = (act.Start isn peer) })) none) ∙ new_keeps most_ends s.node p (started p isn peer) q there) h
other_rings p a s none h = h

pair_rings : (p : Pair) (a : Act) (s : StackState) (o : Option EndState) → held_end p s.node.ends ≡ o → Rings s → Rings (at_pair p a s o).stack
pair_rings p a s None is h = other_rings p a s is h
pair_rings p a s (Some e) is h =
    let step : node_step most_ends s.rows s.node (event.On p a) ≡ on_held s.rows s.node p e a = ap (on_pair most_ends s.rows s.node (record { pair = p; act = a })) is in
    subst (λ (x : NodeStep). Rings (kept p a x.outcome (stepped s x))) (sym step) (held_rings p a e s is h)

heard_rings : (now : ℕ) (p : Pair) (answer : Arrival) (e : EndState) (c : Called) (s : StackState) → held_end p s.node.ends ≡ Some e → length s.node.ends ≤ s.most → Rings s
    → Rings (after_segment_heard now p answer (change_by e c) (called_at p c s))
heard_rings now p answer e c s was few h = at (is_heard answer)
  where
    t : StackState
    t = called_at p c s

    w : ConnectionWatch
    w = arrived now (change_by e c) (s.watches p)

    at : (v : Bool) → Rings (if v then touched p (watched p w t) else t)
    at true = touched_rings p (watched p w t) (watched_rings p w t (held_now p e c s was) (omega (arith, length_with p c.state s.node.ends, few)) (arrived_on now (change_by e c) (s.watches p) (h.on p)) (weaker (same_pair p) t (called_rings nobody p e c s was h)))
    at false = called_rings nobody p e c s was h

met_rings : (coming : Incoming) (d : Segment) (s : StackState) (o : Option EndState) → held_end (pair_reached d) s.node.ends ≡ o → length s.node.ends ≤ s.most → Rings s → Rings (met coming d s o).stack
met_rings coming d s o is few h = at (asks d o)
  where
    pair : (o : Option EndState) → held_end (pair_reached d) s.node.ends ≡ o → Rings (heard_pair coming (pair_reached d) d s o).stack
    pair None is = h
    pair (Some e) is =
        let a = arrive s.rows (pair_reached d) s.node.clock e (Read d) in
        heard_rings coming.now (pair_reached d) a.answer e (called a.state (DatagramAnswered a.answer)) s is few h

    asked : (o : Option EndState) (j : Judgement) → held_end (pair_reached d) s.node.ends ≡ o → Rings (asked_for coming d s o j).stack
    asked o (Ok p) is = h
    asked None (Err why) is = h
    asked (Some e) (Err why) is = pair (Some e) is

    at : (v : Bool) → Rings (let x : Did = if v then asked_for coming d s o (asking_judged s d) else heard_pair coming (pair_reached d) d s o in x.stack)
    at true = asked o (asking_judged s d) is
    at false = pair o is

came_rings : (coming : Incoming) (r : Reading) (s : StackState) → length s.node.ends ≤ s.most → Rings s → Rings (bytes_received coming r s).stack
came_rings coming (Unread fault) s few h = h
came_rings coming (Read d) s few h = met_rings coming d s (held_end (pair_reached d) s.node.ends) refl few h

added_rings : (s : StackState) (adding : Adding) → Rings s → Rings (added s adding).stack
added_rings s (AddedAs n rows) h = record { sorted = h.sorted; queue = h.queue; same = h.same; on = h.on }
added_rings s refusal h = h

withdrew_rings : (s : StackState) (rows : Option (List Row)) → Rings s → Rings (withdrew s rows).stack
withdrew_rings s None h = h
withdrew_rings s (Some rows) h = record { sorted = h.sorted; queue = h.queue; same = h.same; on = h.on }

call_rings : (c : Call) (s : StackState) → TidyRings s → Rings (call c s).stack
unfolding call
call_rings (At pair a) s h = pair_rings pair a s (held_end pair s.node.ends) refl h.rings
call_rings (Input coming) s h = let t = clocked_rings coming.now s h in came_rings coming (reading coming.bytes) (clocked coming.now s).stack t.tidy.ends.few t.rings
call_rings (Output now) s h = (output_rings now s h).rings
call_rings (Add row) s h = added_rings s (adding s.rows (row_of_new row)) h.rings
call_rings (Withdraw n) s h = withdrew_rings s (withdrawn s.rows n) h.rings

pub run_rings : (s : StackState) (calls : List Call) → s.most ≤ most_ends → TidyRings s → TidyRings (stack_after s calls)
run_rings s [] fits h = h
run_rings s (c ∷ cs) fits h = run_rings (call c s).stack cs (rw ((call_steps c s).most) fits) (record { tidy = call_tidy c s fits h.tidy; rings = call_rings c s h })

pub empty_rings : (rows : List Row) (most : ℕ) → TidyRings (empty_stack rows most)
empty_rings rows most = record {
  tidy = empty_tidy rows most;
  rings = record { sorted = tt; queue = record { held = λ p e. absurd (cc); apart = tt }; same = λ p skip. refl; on = λ p. omega arith };
}
