-- While no timer has expired, a stack sends nothing again.
use Rattle.std.proofs.Common.{◌≡◌, ℕ, zero, suc, ◌+◌, ◌/◌, ◌<◌, ◌≤◌, ◌==◌, Bool, true, false, ◌||◌, nat_le, List, [], ◌∷◌, ◌++◌, length, Option, Some, None, Result, Ok, Err, ◌⊎◌, inl, inr, refl, sym, ap, ◌∙◌, subst, if◌then◌else◌, arith}
use Rattle.std.specs.Prelude.{is_some}
use Rattle.std.specs.List.{AllByRecursion}
use Rattle.book_base.specs.declared.address.Pair.{Pair}
use Rattle.book_segments.specs.Segments.{Reading, Read, Bad as Unread, reading, pair_reached}
use Rattle.book_keys.specs.Rows.{Row}
use Rattle.book_keys.specs.Tables.{Adding, AddedAs, adding, row_of_new, withdrawn}
use Rattle.book_endpoint.specs.declared.arrival.Arrival.{Arrival}
use Rattle.book_endpoint.specs.States.{EndState}
use Rattle.book_endpoint.specs.Arrivals.{Arrived, arrive}
use Rattle.book_endpoint.specs.Verdicts.{Judgement}
use Rattle.book_cmd_node.specs.declared.node.Act.{Act}
use Rattle.book_cmd_node.specs.declared.node.Act.TheVariants as act
use Rattle.book_cmd_node.specs.declared.node.NodeEvent.{NodeEvent}
use Rattle.book_cmd_node.specs.declared.node.NodeEvent.TheVariants as event
use Rattle.book_cmd_node.specs.NodeRuns.{Called, NodeOutcome, InUse, NoRoom, ConnectionClosing, NoConnection, NodeFull, DatagramAnswered, Transmitted, NoUsableKey, called, held_end, most_ends}
use Rattle.law_node.proofs.Pairs.{same_pair-refl}
use Rattle.book_stack.specs.declared.alarm.Alarm.{Alarm}
use Rattle.book_stack.specs.declared.front.Change.{Change}
use Rattle.book_stack.specs.Alarms.{with_alarm}
use Rattle.book_stack.specs.Calls.{Call, At, Input, Output, Add, Withdraw, Incoming, Did, Told, added, after_turn, asked_for, asking, at_pair, begun, bytes_received, call, heard_end, heard_pair, kept, makes_an_end, plain_step, stepped, turn_ended, unasked, withdrew}
use Rattle.book_stack.specs.Runs.{expanded_from, stack_after}
use Rattle.book_stack.specs.Stacks.{StackState, asking_judged, asks, empty_stack, touched, watched}
use Rattle.book_stack.specs.Turns.{Turn, ask, asked_end, asked_first, asked_line, asked_pair, asked_watch, called_at, change_by, clocked, output_at, passing, spoken_by, then_turn, turns, wake, woken_first, woken_pair}
use Rattle.book_stack.specs.Watches.{arrived, awaits, is_heard}
use Rattle.law_stack.proofs.Called.{call_steps}
use Rattle.law_stack.proofs.Ending.{asked_stays, due_rung}
use Rattle.law_stack.proofs.Rings.{IsSorted, alarm_of, all_later, due, none_due}
use Rattle.law_stack.proofs.Timed.{Rings, TidyRings, ask_both, clocked_rings, empty_rings, run_rings}
use Rattle.law_stack.proofs.Turned.{clocked_anew}
use Rattle.law_lossless.proofs.Waking.{arrived_later}
use Rattle.law_lossless.specs.Once.{is_resend, sends_again, sends_any_again, IsAt, NoneExpired, SendsOnce}
use Rattle.law_stack.proofs.Sleeping.{line_alarms}

-- ---- no alarm is reached, as no timer has expired

first_rings : (a : Alarm) (rest : List Alarm) → alarm_of a.pair (a ∷ rest) ≡ Some a.deadline
first_rings a rest = rw (same_pair-refl a.pair) refl

none_reached : (now : ℕ) (xs : List Alarm) → IsSorted xs → ((p : Pair) (d : ℕ) → alarm_of p xs ≡ Some d → now < d) → due now xs ≡ 0
none_reached now [] sorted later = refl
none_reached now (a ∷ rest) sorted later =
    let less = later a.pair a.deadline (first_rings a rest) in
    none_due now a.deadline (a ∷ rest) less (omega arith, sorted.0)

pub all_ahead : (now : ℕ) (s : StackState) → Rings s → NoneExpired now s → due now s.alarms ≡ 0
all_ahead now s h none = none_reached now s.alarms h.sorted (λ p d e. none.later p d (h.same p refl ∙ e))

pub none_expired : (now : ℕ) (s : StackState) → Rings s → due now s.alarms ≡ 0 → NoneExpired now s
none_expired now s h none = record { later = λ p d e. all_later now s.alarms p d none (sym (h.same p refl) ∙ e) }

-- ---- turns that send nothing again

none_again : (es fs : List NodeEvent) → sends_any_again es ≡ false → sends_any_again fs ≡ false → sends_any_again (es ++ fs) ≡ false
none_again [] fs a b = b
none_again (e ∷ es) fs a b = at (sends_again e) a (none_again es fs)
  where
    at : (v : Bool) → (v || sends_any_again es) ≡ false → (sends_any_again es ≡ false → sends_any_again fs ≡ false → sends_any_again (es ++ fs) ≡ false) → (v || sends_any_again (es ++ fs)) ≡ false
    at true a more = absurd (cc)
    at false a more = more a b

-- a turn by which nothing is sent again, after which no alarm is reached
record Fresh (now : ℕ) (t : Turn) : Type 0 where
  once : sends_any_again t.events ≡ false
  both : TidyRings t.stack
  none : due now t.stack.alarms ≡ 0

passing_fresh : (now : ℕ) (s : StackState) → TidyRings s → due now s.alarms ≡ 0 → Fresh now (passing s)
passing_fresh now s both none = record { once = refl; both = both; none = none }

then_fresh : (now : ℕ) (t : Turn) (next : StackState → Turn) → Fresh now t → ((u : StackState) → TidyRings u → due now u.alarms ≡ 0 → Fresh now (next u)) → Fresh now (then_turn t next)
then_fresh now t next h go = at (is_some t.hands)
  where
    at : (v : Bool) → Fresh now (if v then t else (let u = next t.stack in record { stack = u.stack; events = t.events ++ u.events; outcomes = t.outcomes ++ u.outcomes; hands = u.hands }))
    at true = h
    at false =
        let u = go t.stack h.both h.none in
        record { once = none_again t.events (next t.stack).events h.once u.once; both = u.both; none = u.none }

turns_fresh : (now n : ℕ) (turn : StackState → Turn) → ((u : StackState) → TidyRings u → due now u.alarms ≡ 0 → Fresh now (turn u)) → (s : StackState) → TidyRings s → due now s.alarms ≡ 0 → Fresh now (turns n turn s)
turns_fresh now zero turn go s both none = passing_fresh now s both none
turns_fresh now (suc n) turn go s both none = then_fresh now (turn s) (turns n turn) (go s both none) (turns_fresh now n turn go)

-- ---- each turn

clocked_fresh : (now : ℕ) (s : StackState) → TidyRings s → due now s.alarms ≡ 0 → Fresh now (clocked now s)
clocked_fresh now s both none = record { once = once (s.node.clock == now / 1000); both = clocked_rings now s both; none = alarms (s.node.clock == now / 1000) }
  where
    once : (v : Bool) → sends_any_again (let t : Turn = if v then passing s else clocked_anew now s in t.events) ≡ false
    once true = refl
    once false = refl

    alarms : (v : Bool) → due now (let t : Turn = if v then passing s else clocked_anew now s in t.stack.alarms) ≡ 0
    alarms true = none
    alarms false = none

pub asked_due : (now : ℕ) (p : Pair) (e : EndState) (c : Called) (s : StackState) → Rings s → due now s.alarms ≡ 0 → due now (asked_end now p e c s).stack.alarms ≡ 0
asked_due now p e c s h none =
    let w = asked_watch now (change_by e c) (awaits c.state) c.outcome (s.watches p) in
    let fewer = due_rung now s.most p w.deadline s.alarms (λ d is. rung d (asked_stays now (change_by e c) (awaits c.state) c.outcome (s.watches p) (h.on p) d is)) in
    let same : due now (asked_end now p e c s).stack.alarms ≡ due now (with_alarm s.most p w.deadline s.alarms) = ap (due now) (line_alarms p c.outcome _) in omega (arith, fewer, same, none)
  where
    rung : (d : ℕ) → (now < d) ⊎ ((s.watches p).deadline ≡ Some d) → (now < d) ⊎ (alarm_of p s.alarms ≡ Some d)
    rung d (inl less) = inl less
    rung d (inr same) = inr (sym (h.same p refl) ∙ same)

ask_fresh : (now : ℕ) (s : StackState) → TidyRings s → due now s.alarms ≡ 0 → Fresh now (ask now s)
ask_fresh now s both none = record { once = once s.line; both = ask_both now s both; none = left s.line }
  where
    asks : (p : Pair) (ps : List Pair) (o : Option EndState) → sends_any_again (asked_pair now p (record s { line = ps }) o).events ≡ false
    asks p ps None = refl
    asks p ps (Some e) = refl

    once : (line : List Pair) → sends_any_again (asked_first now s line).events ≡ false
    once [] = refl
    once (p ∷ ps) = asks p ps (held_end p s.node.ends)

    alarms : (p : Pair) (ps : List Pair) (o : Option EndState) → due now (asked_pair now p (record s { line = ps }) o).stack.alarms ≡ 0
    alarms p ps None = none
    alarms p ps (Some e) =
        let t = record s { line = ps } in
        let h = both.rings in
        asked_due now p e (spoken_by t p e) t (record { sorted = h.sorted; queue = h.queue; same = h.same; on = h.on }) none

    left : (line : List Pair) → due now (asked_first now s line).stack.alarms ≡ 0
    left [] = none
    left (p ∷ ps) = alarms p ps (held_end p s.node.ends)

pub wake_is : (now : ℕ) (s : StackState) → due now s.alarms ≡ 0 → wake now s ≡ passing s
wake_is now s none = at s.alarms none
  where
    over : (a : Alarm) (rest : List Alarm) (v : Bool) → (if v then 1 else 0) + due now rest ≡ 0 → (if v then woken_pair now a.pair (record s { alarms = rest }) (held_end a.pair s.node.ends) else passing s) ≡ passing s
    over a rest true none = absurd (omega (arith, none))
    over a rest false none = refl

    at : (alarms : List Alarm) → due now alarms ≡ 0 → woken_first now s alarms ≡ passing s
    at [] none = refl
    at (a ∷ rest) none = over a rest (nat_le a.deadline now) none

wake_fresh : (now : ℕ) (s : StackState) → TidyRings s → due now s.alarms ≡ 0 → Fresh now (wake now s)
wake_fresh now s both none = subst (Fresh now) (sym (wake_is now s none)) (passing_fresh now s both none)

output_fresh : (now : ℕ) (s : StackState) → TidyRings s → due now s.alarms ≡ 0 → Fresh now (output_at now s)
output_fresh now s both none =
    then_fresh now (clocked now s) (λ t. then_turn (turns (length t.line) (ask now) t) (λ u. turns (length u.alarms) (wake now) u)) (clocked_fresh now s both none) (λ t bt nt.
    then_fresh now (turns (length t.line) (ask now) t) (λ u. turns (length u.alarms) (wake now) u) (turns_fresh now (length t.line) (ask now) (ask_fresh now) t bt nt) (λ u bu nu.
    turns_fresh now (length u.alarms) (wake now) (wake_fresh now) u bu nu))

-- ---- a call

-- a call by which nothing is sent again, after which no alarm is reached
pub record FreshDid (now : ℕ) (d : Did) : Type 0 where
  pub once : sends_any_again d.events ≡ false
  pub none : due now d.stack.alarms ≡ 0

output_did : (now : ℕ) (s : StackState) → TidyRings s → due now s.alarms ≡ 0 → FreshDid now (turn_ended (output_at now s))
output_did now s both none = let r = output_fresh now s both none in record { once = r.once; none = r.none }

-- one event at a pair
one_once : (pair : Pair) (a : Act) → is_resend a ≡ false → sends_any_again (event.On pair a ∷ []) ≡ false
one_once pair a e = rw e refl

kept_due : (now : ℕ) (pair : Pair) (a : Act) (o : NodeOutcome) (s : StackState) → due now s.alarms ≡ 0 → due now (kept pair a o s).alarms ≡ 0
kept_due now pair act.Remove o s none =
    let fewer = due_rung now s.most pair None s.alarms (λ d e. absurd (cc)) in omega (arith, fewer, none)
kept_due now pair a InUse s none = none
kept_due now pair a NoRoom s none = none
kept_due now pair a ConnectionClosing s none = none
kept_due now pair a o s none = none

pair_did : (now : ℕ) (pair : Pair) (a : Act) (s : StackState) (o : Option EndState) → is_resend a ≡ false → due now s.alarms ≡ 0 → FreshDid now (at_pair pair a s o)
pair_did now pair a s None at none = other (makes_an_end a)
  where
    begins : (v : Bool) → FreshDid now (if v then unasked s (Told NodeFull) else (let step = plain_step s (event.On pair a) in asking (touched pair (stepped s step)) (event.On pair a) step.outcome))
    begins true = record { once = refl; none = none }
    begins false = record { once = one_once pair a at; none = none }

    other : (v : Bool) → FreshDid now (if v then begun pair a s else asking s (event.On pair a) NoConnection)
    other true = begins (nat_le s.most (length s.node.ends))
    other false = record { once = one_once pair a at; none = none }
pair_did now pair a s (Some e) at none =
    let step = plain_step s (event.On pair a) in
    record { once = one_once pair a at; none = kept_due now pair a step.outcome (stepped s step) none }

-- ---- bytes come

heard_due : (now : ℕ) (p : Pair) (c : Change) (s : StackState) → Rings s → due now s.alarms ≡ 0 → due now (with_alarm s.most p (arrived now c (s.watches p)).deadline s.alarms) ≡ 0
heard_due now p c s h none =
    let w = arrived now c (s.watches p) in
    let fewer = due_rung now s.most p w.deadline s.alarms (λ d is. rung d (arrived_later now c (s.watches p) (h.on p) d is)) in omega (arith, fewer, none)
  where
    rung : (d : ℕ) → (now < d) ⊎ ((s.watches p).deadline ≡ Some d) → (now < d) ⊎ (alarm_of p s.alarms ≡ Some d)
    rung d (inl less) = inl less
    rung d (inr same) = inr (sym (h.same p refl) ∙ same)

came_did : (coming : Incoming) (r : Reading) (s : StackState) → Rings s → due coming.now s.alarms ≡ 0 → FreshDid coming.now (bytes_received coming r s)
came_did coming (Unread fault) s h none = record { once = refl; none = none }
came_did coming (Read d) s h none = meets (asks d (held_end (pair_reached d) s.node.ends)) (held_end (pair_reached d) s.node.ends)
  where
    p : Pair
    p = pair_reached d

    hears : (e : EndState) (a : Arrived) → FreshDid coming.now (heard_end coming p e a s)
    hears e a = record { once = refl; none = heard (is_heard a.answer) }
      where
        t : StackState
        t = called_at p (called a.state (DatagramAnswered a.answer)) s

        c : Change
        c = change_by e (called a.state (DatagramAnswered a.answer))

        heard : (v : Bool) → due coming.now (if v then touched p (watched p (arrived coming.now c (t.watches p)) t) else t).alarms ≡ 0
        heard true = heard_due coming.now p c s h none
        heard false = none

    pair : (o : Option EndState) → FreshDid coming.now (heard_pair coming p d s o)
    pair None = record { once = refl; none = none }
    pair (Some e) = hears e (arrive s.rows p s.node.clock e (Read d))

    asked : (o : Option EndState) (j : Judgement) → FreshDid coming.now (asked_for coming d s o j)
    asked o (Ok f) = record { once = refl; none = none }
    asked None (Err why) = record { once = refl; none = none }
    asked (Some e) (Err why) = pair (Some e)

    meets : (v : Bool) (o : Option EndState) → FreshDid coming.now (if v then asked_for coming d s o (asking_judged s d) else heard_pair coming p d s o)
    meets true o = asked o (asking_judged s d)
    meets false o = pair o

input_did : (coming : Incoming) (s : StackState) → TidyRings s → due coming.now s.alarms ≡ 0 → FreshDid coming.now (after_turn (clocked coming.now s) (bytes_received coming (reading coming.bytes)))
input_did coming s both none =
    let t = clocked coming.now s in
    let one = clocked_fresh coming.now s both none in
    let two = came_did coming (reading coming.bytes) t.stack one.both.rings one.none in
    record { once = none_again t.events (bytes_received coming (reading coming.bytes) t.stack).events one.once two.once; none = two.none }

-- ---- calls one after another

added_did : (now : ℕ) (s : StackState) (a : Adding) → due now s.alarms ≡ 0 → FreshDid now (added s a)
added_did now s (AddedAs n rows) none = record { once = refl; none = none }
added_did now s refusal none = record { once = refl; none = none }

withdrew_did : (now : ℕ) (s : StackState) (rows : Option (List Row)) → due now s.alarms ≡ 0 → FreshDid now (withdrew s rows)
withdrew_did now s None none = record { once = refl; none = none }
withdrew_did now s (Some rows) none = record { once = refl; none = none }

pub call_did : (now : ℕ) (c : Call) (s : StackState) → IsAt now c → TidyRings s → due now s.alarms ≡ 0 → FreshDid now (call c s)
unfolding call
call_did now (At pair a) s at both none = pair_did now pair a s (held_end pair s.node.ends) at none
call_did now (Input coming) s at both none =
    subst (λ (t : ℕ). FreshDid t (after_turn (clocked coming.now s) (bytes_received coming (reading coming.bytes)))) at (input_did coming s both (subst (λ (t : ℕ). due t s.alarms ≡ 0) (sym at) none))
call_did now (Output time) s at both none = subst (λ (t : ℕ). FreshDid t (turn_ended (output_at time s))) at (output_did time s both (subst (λ (t : ℕ). due t s.alarms ≡ 0) (sym at) none))
call_did now (Add row) s at both none = added_did now s (adding s.rows (row_of_new row)) none
call_did now (Withdraw n) s at both none = withdrew_did now s (withdrawn s.rows n) none

pub calls_once : (now : ℕ) (s : StackState) (calls : List Call) → s.most ≤ most_ends → AllByRecursion (IsAt now) calls → TidyRings s → due now s.alarms ≡ 0 → SendsOnce now s calls
calls_once now s [] fits at both none = record { once = refl; still = none_expired now s both.rings none }
calls_once now s (c ∷ calls) fits at both none =
    let d = call_did now c s at.0 both none in
    let rest = calls_once now (call c s).stack calls (rw ((call_steps c s).most) fits) at.1 (run_rings s (c ∷ []) fits both) d.none in
    record { once = none_again (call c s).events (expanded_from (call c s).stack calls) d.once rest.once; still = rest.still }

pub most_fits : (s : StackState) (calls : List Call) → s.most ≤ most_ends → (stack_after s calls).most ≤ most_ends
most_fits s [] fits = fits
most_fits s (c ∷ cs) fits = most_fits (call c s).stack cs (rw ((call_steps c s).most) fits)

pub sends_once : (rows : List Row) (most : ℕ) (calls later : List Call) (now : ℕ) → most ≤ most_ends → AllByRecursion (IsAt now) later → NoneExpired now (stack_after (empty_stack rows most) calls) → SendsOnce now (stack_after (empty_stack rows most) calls) later
sends_once rows most calls later now fits at ahead =
    let s = stack_after (empty_stack rows most) calls in
    let h = run_rings (empty_stack rows most) calls fits (empty_rings rows most) in
    calls_once now s later (most_fits (empty_stack rows most) calls fits) at h (all_ahead now s h.rings ahead)
