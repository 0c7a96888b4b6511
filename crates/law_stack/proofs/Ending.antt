-- With each datagram that a stack hands out less is left to be handed out.
use Rattle.std.proofs.Common.{◌≡◌, ℕ, zero, suc, ◌+◌, ◌/◌, ◌<◌, ◌≤◌, ◌==◌, Bool, true, false, nat_lt, nat_le, List, [], ◌∷◌, ◌++◌, length, Option, Some, None, refl, sym, ap, ◌∙◌, ◌⊎◌, inl, inr, if◌then◌else◌, arith}
use Rattle.std.proofs.lemmas.Bool.Decides.{nat_tests}
use Rattle.std.specs.Prelude.{is_some}
use Rattle.book_base.specs.declared.address.Pair.{Pair}
use Rattle.book_segments.proofs.Fields.{some_is}
use Rattle.book_keys.specs.Rows.{Row}
use Rattle.book_endpoint.specs.declared.phase.Phase.{Phase}
use Rattle.book_endpoint.specs.States.{EndState}
use Rattle.book_endpoint.specs.Emissions.{Emission, Emitted, Quiet, NoKey, Emits, emit, resend}
use Rattle.book_cmd_node.specs.NodeRuns.{Called, NothingToSend, NodeOutcome, NothingToResend, Transmitted, NoUsableKey, called, held_end, made_called, most_ends, same_pair, with_end}
use Rattle.book_stack.specs.declared.alarm.Alarm.{Alarm}
use Rattle.book_stack.specs.declared.front.Change.{Change}
use Rattle.book_stack.specs.declared.front.Front.{Front}
use Rattle.book_stack.specs.declared.front.Timed.{Timed}
use Rattle.book_stack.specs.Alarms.{placed, put_alarm, with_alarm, without_alarm}
use Rattle.book_stack.specs.Calls.{Call, call, handed_out}
use Rattle.book_stack.specs.Runs.{stack_after}
use Rattle.book_stack.specs.Stacks.{StackState, empty_stack}
use Rattle.book_stack.specs.Turns.{Turn, ask, asked_end, asked_first, asked_line, asked_pair, asked_watch, change_by, clocked, output_at, passing, then_turn, turns, wake, woken_end, woken_first, woken_pair}
use Rattle.book_stack.specs.Watches.{ConnectionWatch, at_rest, awaits, is_time_wait, running, after_sending, timer_stopped, timing}
use Rattle.law_stack.specs.Ending.{RestsWithin}
use Rattle.law_stack.proofs.Loads.{emit_lightens, load, load_ticked, load_with, resend_lightens}
use Rattle.law_stack.proofs.Rings.{alarm_of, due, due_placed, due_without}
use Rattle.law_stack.proofs.Speaking.{Speaks}
use Rattle.law_stack.proofs.Timed.{IsOn, Rings, TidyRings, ask_both, asks_both, clocked_rings, empty_rings, output_rings, run_rings, wake_both, wake_rings}
use Rattle.law_stack.proofs.Turned.{clocked_anew}

-- ---- an alarm that stays, or goes off later

due_took : (now : ℕ) (p : Pair) (d : ℕ) (xs : List Alarm) → alarm_of p xs ≡ Some d → due now xs ≡ (if nat_le d now then 1 else 0) + due now (without_alarm p xs)
due_took now p d [] e = absurd (cc)
due_took now p d (a ∷ xs) e = at (same_pair a.pair p) e (due_took now p d xs)
  where
    at : (v : Bool) → (if v then Some a.deadline else alarm_of p xs) ≡ Some d → (alarm_of p xs ≡ Some d → due now xs ≡ (if nat_le d now then 1 else 0) + due now (without_alarm p xs))
        → (if nat_le a.deadline now then 1 else 0) + due now xs ≡ (if nat_le d now then 1 else 0) + due now (if v then xs else a ∷ without_alarm p xs)
    at true e next = ap (λ (n : ℕ). (if nat_le n now then 1 else 0) + due now xs) (some_is a.deadline d e)
    at false e next = omega (arith, next e)

due_put : (now most : ℕ) (a : Alarm) (xs : List Alarm) → due now (put_alarm most a xs) ≤ (if nat_le a.deadline now then 1 else 0) + due now xs
due_put now most a xs = at (nat_le most (length xs))
  where
    at : (v : Bool) → due now (if v then xs else placed a xs) ≤ (if nat_le a.deadline now then 1 else 0) + due now xs
    at true = omega arith
    at false = omega (arith, due_placed now a xs)

-- where the alarm stays or goes off later, no more are reached than before
pub due_rung : (now most : ℕ) (p : Pair) (o : Option ℕ) (xs : List Alarm) → ((d : ℕ) → o ≡ Some d → (now < d) ⊎ (alarm_of p xs ≡ Some d)) → due now (with_alarm most p o xs) ≤ due now xs
due_rung now most p None xs later = due_without now p xs
due_rung now most p (Some d) xs later = at (later d refl)
  where
    put : due now (with_alarm most p (Some d) xs) ≤ (if nat_le d now then 1 else 0) + due now (without_alarm p xs)
    put = due_put now most (record { pair = p; deadline = d }) (without_alarm p xs)

    unreached : now < d → nat_le d now ≡ false
    unreached less = grind (arith, nat_tests, less)

    at : (now < d) ⊎ (alarm_of p xs ≡ Some d) → due now (with_alarm most p (Some d) xs) ≤ due now xs
    at (inl less) =
        let plain : due now (with_alarm most p (Some d) xs) ≤ 0 + due now (without_alarm p xs) = rw (unreached less) at put in
        omega (arith, plain, due_without now p xs)
    at (inr is) = omega (arith, put, due_took now p d xs is)

-- ---- the timer of an end that was asked

abbrev StaysOrLater : ℕ → ConnectionWatch → ConnectionWatch → Type 0
StaysOrLater now old new = (d : ℕ) → new.deadline ≡ Some d → (now < d) ⊎ (old.deadline ≡ Some d)

running_stays : (now : ℕ) (w : ConnectionWatch) (o : Option ℕ) → w.deadline ≡ o → IsOn w → StaysOrLater now w (running now w o)
running_stays now w None is on d e = inl (omega (arith, on, some_is (now + w.timer.value) d e))
running_stays now w (Some f) is on d e = inr e

timing_stays : (now : ℕ) (f : Front) (w : ConnectionWatch) (o : Option Timed) → (timing now f w o).deadline ≡ w.deadline
timing_stays now f w None = refl
timing_stays now f w (Some t) = refl

sent_stays : (now : ℕ) (c : Change) (w : ConnectionWatch) → IsOn w → StaysOrLater now w (after_sending now c w)
sent_stays now c w on = at (nat_lt c.before.next c.after.next)
  where
    at : (v : Bool) → StaysOrLater now w (if v then (let r = running now w w.deadline in timing now c.after r r.timed) else w)
    at true d e = let r = running now w w.deadline in running_stays now w w.deadline refl on d (sym (timing_stays now c.after r r.timed) ∙ e)
    at false d e = inr e

rest_stays : (now : ℕ) (phase : Phase) (waits : Bool) (w : ConnectionWatch) → IsOn w → StaysOrLater now w (at_rest now phase waits w)
rest_stays now phase true w on = running_stays now w w.deadline refl on
rest_stays now phase false w on = at (is_time_wait phase)
  where
    at : (v : Bool) → StaysOrLater now w (if v then w else timer_stopped w)
    at true d e = inr e
    at false d e = absurd (cc)

pub asked_stays : (now : ℕ) (c : Change) (waits : Bool) (o : NodeOutcome) (w : ConnectionWatch) → IsOn w → StaysOrLater now w (asked_watch now c waits o w)
asked_stays now c waits (Transmitted x) w on = sent_stays now c w on
asked_stays now c waits NoUsableKey w on = λ d e. inr e
asked_stays now c waits _ w on = rest_stays now c.after.phase waits w on

-- ---- a turn makes what is left less

-- what is left to be handed out at most
abbrev weight : ℕ → StackState → ℕ
weight now s = load s.node.ends + due now s.alarms

record Lighter (now : ℕ) (s : StackState) (t : Turn) : Type 0 where
  stays : weight now t.stack ≤ weight now s
  hands : is_some t.hands ≡ true → weight now t.stack + 1 ≤ weight now s

passing_lighter : (now : ℕ) (s : StackState) → Lighter now s (passing s)
passing_lighter now s = record { stays = omega arith; hands = λ e. absurd (cc) }

line_weight : (now : ℕ) (p : Pair) (o : NodeOutcome) (t : StackState) → weight now (asked_line p o t) ≡ weight now t
line_weight now p (Transmitted x) t = refl
line_weight now p NoUsableKey t = refl
line_weight now p o t = refl

asked_lighter : (now : ℕ) (p : Pair) (e : EndState) (s : StackState) (m : Emitted) → emit s.rows p s.node.clock e ≡ m → held_end p s.node.ends ≡ Some e → Rings s → Speaks e → Lighter now s (asked_end now p e (made_called e NothingToSend m) s)
asked_lighter now p e s m is was h speaks = by_kind m is
  where
    fewer : (c : Called) → due now (with_alarm s.most p (asked_watch now (change_by e c) (awaits c.state) c.outcome (s.watches p)).deadline s.alarms) ≤ due now s.alarms
    fewer c =
        let w = asked_watch now (change_by e c) (awaits c.state) c.outcome (s.watches p) in
        due_rung now s.most p w.deadline s.alarms (λ d e1. rung d (asked_stays now (change_by e c) (awaits c.state) c.outcome (s.watches p) (h.on p) d e1))
      where
        rung : (d : ℕ) → (now < d) ⊎ ((s.watches p).deadline ≡ Some d) → (now < d) ⊎ (alarm_of p s.alarms ≡ Some d)
        rung d (inl less) = inl less
        rung d (inr same) = inr (sym (h.same p refl) ∙ same)

    whole : (c : Called) → weight now (asked_end now p e c s).stack ≡ load (with_end p c.state s.node.ends) + due now (with_alarm s.most p (asked_watch now (change_by e c) (awaits c.state) c.outcome (s.watches p)).deadline s.alarms)
    whole c = line_weight now p c.outcome _

    by_kind : (m : Emitted) → emit s.rows p s.node.clock e ≡ m → Lighter now s (asked_end now p e (made_called e NothingToSend m) s)
    by_kind Quiet is = let c = called e NothingToSend in record {
      stays = omega (arith, whole c, load_with p e e s.node.ends was, fewer c);
      hands = λ t. absurd (cc);
    }
    by_kind NoKey is = let c = called e NoUsableKey in record {
      stays = omega (arith, whole c, load_with p e e s.node.ends was, fewer c);
      hands = λ t. absurd (cc);
    }
    by_kind (Emits out) is =
        let c = called out.state (Transmitted out) in
        let less = emit_lightens s.rows p s.node.clock e out speaks is in record {
          stays = omega (arith, whole c, load_with p e out.state s.node.ends was, fewer c, less);
          hands = λ t. omega (arith, whole c, load_with p e out.state s.node.ends was, fewer c, less);
        }

ask_lighter : (now : ℕ) (s : StackState) → TidyRings s → Lighter now s (ask now s)
ask_lighter now s h = at s.line
  where
    pair : (p : Pair) (ps : List Pair) (o : Option EndState) → held_end p s.node.ends ≡ o → Lighter now s (asked_pair now p (record s { line = ps }) o)
    pair p ps None was = record { stays = omega arith; hands = λ e. absurd (cc) }
    pair p ps (Some e) was =
        let t = record s { line = ps } in
        let l = asked_lighter now p e t (emit s.rows p s.node.clock e) refl was (record { sorted = h.rings.sorted; queue = h.rings.queue; same = h.rings.same; on = h.rings.on }) (h.tidy.ends.speaks p e was) in
        record { stays = l.stays; hands = l.hands }

    at : (line : List Pair) → Lighter now s (asked_first now s line)
    at [] = passing_lighter now s
    at (p ∷ ps) = pair p ps (held_end p s.node.ends) refl

-- ---- an alarm goes off

woken_load : (now : ℕ) (p : Pair) (e : EndState) (s : StackState) (m : Emitted) → resend s.rows p s.node.clock e ≡ m → held_end p s.node.ends ≡ Some e → load (woken_end now p e (made_called e NothingToResend m) s).stack.node.ends ≤ load s.node.ends
woken_load now p e s Quiet is was = omega (arith, load_with p e e s.node.ends was)
woken_load now p e s NoKey is was = omega (arith, load_with p e e s.node.ends was)
woken_load now p e s (Emits out) is was = omega (arith, load_with p e out.state s.node.ends was, resend_lightens s.rows p s.node.clock e out is)

wake_load : (now : ℕ) (s : StackState) → load (wake now s).stack.node.ends ≤ load s.node.ends
wake_load now s = at s.alarms
  where
    pair : (a : Alarm) (rest : List Alarm) (o : Option EndState) → held_end a.pair s.node.ends ≡ o → load (woken_pair now a.pair (record s { alarms = rest }) o).stack.node.ends ≤ load s.node.ends
    pair a rest None was = omega arith
    pair a rest (Some e) was = let t = record s { alarms = rest } in woken_load now a.pair e t (resend s.rows a.pair s.node.clock e) refl was

    over : (a : Alarm) (rest : List Alarm) (v : Bool) → load (let t : Turn = if v then woken_pair now a.pair (record s { alarms = rest }) (held_end a.pair s.node.ends) else passing s in t.stack.node.ends) ≤ load s.node.ends
    over a rest true = pair a rest (held_end a.pair s.node.ends) refl
    over a rest false = omega arith

    at : (alarms : List Alarm) → load (woken_first now s alarms).stack.node.ends ≤ load s.node.ends
    at [] = omega arith
    at (a ∷ rest) = over a rest (nat_le a.deadline now)

wake_lighter : (now : ℕ) (s : StackState) → TidyRings s → Lighter now s (wake now s)
wake_lighter now s h =
    let w = wake_rings now s h.tidy h.rings in record {
      stays = omega (arith, wake_load now s, fewer (due now (wake now s).stack.alarms) w.fewer);
      hands = λ e. omega (arith, wake_load now s, w.handed e);
    }
  where
    fewer : (k : ℕ) → (k ≡ 0) ⊎ (k + 1 ≤ due now s.alarms) → k ≤ due now s.alarms
    fewer k (inl none) = omega (arith, none)
    fewer k (inr less) = omega (arith, less)

-- ---- turns one after another

then_lighter : (now : ℕ) (s : StackState) (t : Turn) (next : StackState → Turn) → Lighter now s t → Lighter now t.stack (next t.stack) → Lighter now s (then_turn t next)
then_lighter now s t next a b = at (is_some t.hands)
  where
    at : (v : Bool) → Lighter now s (if v then t else (let u = next t.stack in record { stack = u.stack; events = t.events ++ u.events; outcomes = t.outcomes ++ u.outcomes; hands = u.hands }))
    at true = a
    at false = record { stays = omega (arith, a.stays, b.stays); hands = λ e. omega (arith, a.stays, b.hands e) }

turns_lighter : (now n : ℕ) (turn : StackState → Turn) (s : StackState) → TidyRings s → ((u : StackState) → TidyRings u → TidyRings (turn u).stack) → ((u : StackState) → TidyRings u → Lighter now u (turn u)) → Lighter now s (turns n turn s)
turns_lighter now zero turn s h keep one = passing_lighter now s
turns_lighter now (suc n) turn s h keep one = then_lighter now s (turn s) (turns n turn) (one s h) (turns_lighter now n turn (turn s).stack (keep s h) keep one)

clocked_lighter : (now : ℕ) (s : StackState) → Lighter now s (clocked now s)
clocked_lighter now s = at (s.node.clock == now / 1000)
  where
    at : (v : Bool) → Lighter now s (if v then passing s else clocked_anew now s)
    at true = passing_lighter now s
    at false = record { stays = omega (arith, load_ticked (now / 1000) s.node.ends); hands = λ e. absurd (cc) }

output_lighter : (now : ℕ) (s : StackState) → TidyRings s → Lighter now s (output_at now s)
output_lighter now s h =
    let t = (clocked now s).stack in
    let ht = clocked_rings now s h in
    let u = (turns (length t.line) (ask now) t).stack in
    let hu = asks_both now (length t.line) t ht in
    then_lighter now s (clocked now s) (λ t. then_turn (turns (length t.line) (ask now) t) (λ u. turns (length u.alarms) (wake now) u)) (clocked_lighter now s)
    (then_lighter now t (turns (length t.line) (ask now) t) (λ u. turns (length u.alarms) (wake now) u) (turns_lighter now (length t.line) (ask now) t ht (ask_both now) (ask_lighter now))
    (turns_lighter now (length u.alarms) (wake now) u hu (wake_both now) (wake_lighter now)))

rests_soon : (now n : ℕ) (s : StackState) → TidyRings s → weight now s ≤ n → RestsWithin (suc n) now s
unfolding call
rests_soon now zero s h few = at (output_at now s).hands refl
  where
    at : (o : Option Emission) → (output_at now s).hands ≡ o → RestsWithin 1 now s
    at None e = inl (ap handed_out e)
    at (Some x) e = let less = (output_lighter now s h).hands (ap is_some e) in absurd (omega (arith, less, few))
rests_soon now (suc n) s h few = at (output_at now s).hands refl (λ less. rests_soon now n (output_at now s).stack (output_rings now s h) (omega (arith, less, few)))
  where
    at : (o : Option Emission) → (output_at now s).hands ≡ o → (weight now (output_at now s).stack + 1 ≤ weight now s → RestsWithin (suc n) now (output_at now s).stack) → RestsWithin (suc (suc n)) now s
    at None e next = inl (ap handed_out e)
    at (Some x) e next = inr (next ((output_lighter now s h).hands (ap is_some e)))

pub output_ends : (rows : List Row) (most : ℕ) (calls : List Call) (now : ℕ) → most ≤ most_ends → (n : ℕ) × RestsWithin n now (stack_after (empty_stack rows most) calls)
output_ends rows most calls now fits =
    let s = stack_after (empty_stack rows most) calls in
    let h = run_rings (empty_stack rows most) calls fits (empty_rings rows most) in (suc (weight now s), rests_soon now (weight now s) s h (omega arith))
