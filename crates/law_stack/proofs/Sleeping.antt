-- Until the deadline that was told nothing is due.
use Rattle.std.proofs.Common.{◌≡◌, ℕ, zero, suc, ◌+◌, ◌*◌, ◌/◌, ◌<◌, ◌≤◌, ◌==◌, Bool, true, false, nat_le, List, [], ◌∷◌, ◌++◌, length, Option, Some, None, refl, sym, ap, ◌∙◌, ◌⊎◌, inl, inr, subst, if◌then◌else◌, arith}
use Rattle.std.proofs.lemmas.Bool.Decides.{nat_tests}
use Rattle.std.specs.Prelude.{is_some}
use Rattle.book_base.specs.declared.address.Pair.{Pair}
use Rattle.book_keys.specs.Rows.{Row}
use Rattle.book_endpoint.specs.States.{EndState}
use Rattle.book_endpoint.specs.Emissions.{Emitted, Quiet, NoKey, Emits, emit}
use Rattle.book_cmd_node.specs.NodeRuns.{Called, NothingToSend, NodeOutcome, Transmitted, NoUsableKey, held_end, made_called, most_ends}
use Rattle.book_stack.specs.declared.alarm.Alarm.{Alarm}
use Rattle.book_stack.specs.Alarms.{earliest, stands_in, with_alarm}
use Rattle.book_stack.specs.Calls.{Call, Output, Rests, call, handed_out}
use Rattle.book_stack.specs.Runs.{stack_after}
use Rattle.book_stack.specs.Stacks.{StackState, empty_stack, next_deadline, next_try, sooner}
use Rattle.book_stack.specs.Turns.{Turn, ask, asked_end, asked_first, asked_line, asked_pair, asked_watch, change_by, clocked, output_at, passing, then_turn, turns, wake, woken_first, woken_pair}
use Rattle.book_stack.specs.Watches.{awaits}
use Rattle.law_stack.specs.Resting.{IsBefore}
use Rattle.law_stack.proofs.AtRest.{Mute, MuteIn, makes, mute_of, output_mute, rested_hands, same_held}
use Rattle.law_stack.proofs.Deadlines.{IsClocked, output_clock}
use Rattle.law_stack.proofs.Ending.{asked_stays, due_rung}
use Rattle.law_stack.proofs.Rings.{IsSorted, alarm_of, due, none_due}
use Rattle.law_stack.proofs.Tidy.{tidy_ticked}
use Rattle.law_stack.proofs.Timed.{Rings, TidyRings, ask_both, clocked_rings, empty_rings, output_rings, run_rings}
use Rattle.law_stack.proofs.Turned.{clocked_anew}

-- ---- turns that hand out nothing

then_silent : (t : Turn) (next : StackState → Turn) → t.hands ≡ None → (next t.stack).hands ≡ None → (then_turn t next).hands ≡ None
then_silent t next none rest = at (is_some t.hands) refl
  where
    at : (v : Bool) → is_some t.hands ≡ v → (let r : Turn = if v then t else (let u = next t.stack in record { stack = u.stack; events = t.events ++ u.events; outcomes = t.outcomes ++ u.outcomes; hands = u.hands }) in r.hands) ≡ None
    at true e = let no_hand : is_some t.hands ≡ false = ap is_some none in absurd (cc)
    at false e = rest

-- ---- the ends in line are asked, and make nothing

-- a stack in which nothing is due at this time
record Calm (now : ℕ) (s : StackState) : Type 0 where
  both : TidyRings s
  mute : Mute s
  none : due now s.alarms ≡ 0

pub line_alarms : (p : Pair) (o : NodeOutcome) (t : StackState) → (asked_line p o t).alarms ≡ t.alarms
line_alarms p (Transmitted x) t = refl
line_alarms p NoUsableKey t = refl
line_alarms p o t = refl

asked_due : (now : ℕ) (p : Pair) (e : EndState) (c : Called) (s : StackState) → Rings s → due now (asked_end now p e c s).stack.alarms ≤ due now s.alarms
asked_due now p e c s h =
    let w = asked_watch now (change_by e c) (awaits c.state) c.outcome (s.watches p) in
    let fewer = due_rung now s.most p w.deadline s.alarms (λ d is. rung d (asked_stays now (change_by e c) (awaits c.state) c.outcome (s.watches p) (h.on p) d is)) in
    let same : due now (asked_end now p e c s).stack.alarms ≡ due now (with_alarm s.most p w.deadline s.alarms) = ap (due now) (line_alarms p c.outcome _) in omega (arith, fewer, same)
  where
    rung : (d : ℕ) → (now < d) ⊎ ((s.watches p).deadline ≡ Some d) → (now < d) ⊎ (alarm_of p s.alarms ≡ Some d)
    rung d (inl less) = inl less
    rung d (inr same) = inr (sym (h.same p refl) ∙ same)

-- what asking an end that makes nothing leaves
record Silent (now : ℕ) (s : StackState) (t : Turn) : Type 0 where
  hands : t.hands ≡ None
  mute : Mute t.stack
  fewer : due now t.stack.alarms ≤ due now s.alarms

asked_silent : (now : ℕ) (p : Pair) (e : EndState) (s : StackState) (m : Emitted) → makes m ≡ false → held_end p s.node.ends ≡ Some e → Rings s → Mute s → Silent now s (asked_end now p e (made_called e NothingToSend m) s)
asked_silent now p e s Quiet no_make was h mute = record {
  hands = refl;
  mute = record { all = λ q x held. mute.all q x (sym (same_held p q e s.node.ends was) ∙ held) };
  fewer = asked_due now p e (made_called e NothingToSend Quiet) s h;
}
asked_silent now p e s NoKey no_make was h mute = record {
  hands = refl;
  mute = record { all = λ q x held. mute.all q x (sym (same_held p q e s.node.ends was) ∙ held) };
  fewer = asked_due now p e (made_called e NothingToSend NoKey) s h;
}
asked_silent now p e s (Emits out) no_make was h mute = absurd (cc)

ask_silent : (now : ℕ) (s : StackState) → Rings s → Mute s → Silent now s (ask now s)
ask_silent now s h mute = at s.line
  where
    pair : (p : Pair) (ps : List Pair) (o : Option EndState) → held_end p s.node.ends ≡ o → Silent now s (asked_pair now p (record s { line = ps }) o)
    pair p ps None was = record { hands = refl; mute = record { all = mute.all }; fewer = omega arith }
    pair p ps (Some e) was =
        let t = record s { line = ps } in
        let a = asked_silent now p e t (emit s.rows p s.node.clock e) (mute.all p e was) was (record { sorted = h.sorted; queue = h.queue; same = h.same; on = h.on }) (record { all = mute.all }) in
        record { hands = a.hands; mute = a.mute; fewer = a.fewer }

    at : (line : List Pair) → Silent now s (asked_first now s line)
    at [] = record { hands = refl; mute = mute; fewer = omega arith }
    at (p ∷ ps) = pair p ps (held_end p s.node.ends) refl

-- what is left after turns that hand out nothing
record CalmTurn (now : ℕ) (t : Turn) : Type 0 where
  hands : t.hands ≡ None
  calm : Calm now t.stack

then_calm : (now : ℕ) (t : Turn) (next : StackState → Turn) → CalmTurn now t → CalmTurn now (next t.stack) → CalmTurn now (then_turn t next)
then_calm now t next a b = record { hands = then_silent t next a.hands b.hands; calm = at (is_some t.hands) refl }
  where
    at : (v : Bool) → is_some t.hands ≡ v → Calm now (let r : Turn = if v then t else (let u = next t.stack in record { stack = u.stack; events = t.events ++ u.events; outcomes = t.outcomes ++ u.outcomes; hands = u.hands }) in r.stack)
    at true e = a.calm
    at false e = b.calm

asks_calm : (now n : ℕ) (s : StackState) → Calm now s → CalmTurn now (turns n (ask now) s)
asks_calm now zero s h = record { hands = refl; calm = h }
asks_calm now (suc n) s h =
    let a = ask_silent now s h.both.rings h.mute in
    let calm : Calm now (ask now s).stack = record { both = ask_both now s h.both; mute = a.mute; none = none_left (due now (ask now s).stack.alarms) a.fewer } in
    then_calm now (ask now s) (turns n (ask now)) (record { hands = a.hands; calm = calm }) (asks_calm now n (ask now s).stack calm)
  where
    none_left : (k : ℕ) → k ≤ due now s.alarms → k ≡ 0
    none_left k le = let none = h.none in omega (arith, le, none)

-- ---- no alarm goes off

wake_passes : (now : ℕ) (s : StackState) → due now s.alarms ≡ 0 → wake now s ≡ passing s
wake_passes now s none = at s.alarms none
  where
    over : (a : Alarm) (rest : List Alarm) (v : Bool) → (if v then 1 else 0) + due now rest ≡ 0 → (if v then woken_pair now a.pair (record s { alarms = rest }) (held_end a.pair s.node.ends) else passing s) ≡ passing s
    over a rest true none = absurd (omega (arith, none))
    over a rest false none = refl

    at : (alarms : List Alarm) → due now alarms ≡ 0 → woken_first now s alarms ≡ passing s
    at [] none = refl
    at (a ∷ rest) none = over a rest (nat_le a.deadline now) none

wakes_silent : (now n : ℕ) (s : StackState) → due now s.alarms ≡ 0 → (turns n (wake now) s).hands ≡ None
wakes_silent now zero s none = refl
wakes_silent now (suc n) s none =
    let same = wake_passes now s none in
    then_silent (wake now s) (turns n (wake now)) (ap (λ (t : Turn). t.hands) same)
    (subst (λ (t : Turn). (turns n (wake now) t.stack).hands ≡ None) (sym same) (wakes_silent now n s none))

-- ---- the clock goes on

before_first : (later : ℕ) (xs : List Alarm) (o : Option ℕ) → IsSorted xs → IsBefore later (sooner (earliest xs) o) → due later xs ≡ 0
before_first later [] o sorted before = refl
before_first later (a ∷ xs) o sorted before =
    let less = first o before in
    let unreached : nat_le a.deadline later ≡ false = test a.deadline less in
    rw unreached (omega (arith, none_due later a.deadline xs less sorted.0))
  where
    first : (o : Option ℕ) → IsBefore later (sooner (Some a.deadline) o) → later < a.deadline
    first None before = before
    first (Some b) before = omega (arith, before)

    test : (d : ℕ) → later < d → nat_le d later ≡ false
    test d less = grind (arith, nat_tests, less)

-- the clock of the ends stays while somebody stands in line
still : (now later clock : ℕ) (line : List Pair) (o : Option ℕ) → clock ≡ now / 1000 → now ≤ later → IsBefore later (sooner o (next_try clock line)) → (line ≡ []) ⊎ ((clock == later / 1000) ≡ true)
still now later clock [] o is le before = inl refl
still now later clock (p ∷ ps) o is le before = inr (same (second o before))
  where
    second : (o : Option ℕ) → IsBefore later (sooner o (Some (1000 * (clock + 1)))) → later < 1000 * (clock + 1)
    second None before = before
    second (Some a) before = omega (arith, before)

    same : later < 1000 * (clock + 1) → (clock == later / 1000) ≡ true
    same less = let equal : clock ≡ later / 1000 = omega (arith, less, is, le) in grind (arith, nat_tests, equal)

clocked_calm : (later : ℕ) (s : StackState) → TidyRings s → Mute s → due later s.alarms ≡ 0 → (s.line ≡ []) ⊎ ((s.node.clock == later / 1000) ≡ true) → CalmTurn later (clocked later s)
clocked_calm later s both mute none clock = record {
  hands = hands (s.node.clock == later / 1000);
  calm = record { both = clocked_rings later s both; mute = muted (s.node.clock == later / 1000) refl clock; none = alarms (s.node.clock == later / 1000) };
}
  where
    hands : (v : Bool) → (let t : Turn = if v then passing s else clocked_anew later s in t.hands) ≡ None
    hands true = refl
    hands false = refl

    alarms : (v : Bool) → due later (let t : Turn = if v then passing s else clocked_anew later s in t.stack.alarms) ≡ 0
    alarms true = none
    alarms false = none

    nobody_in : s.line ≡ [] → MuteIn s.line (clocked_anew later s).stack
    nobody_in empty = record { all = λ p stands. let out : stands_in p s.line ≡ false = ap (stands_in p) empty in absurd (cc) }

    muted : (v : Bool) → (s.node.clock == later / 1000) ≡ v → (s.line ≡ []) ⊎ ((s.node.clock == later / 1000) ≡ true) → Mute (let t : Turn = if v then passing s else clocked_anew later s in t.stack)
    muted true e clock = mute
    muted false e (inl empty) = mute_of (clocked_anew later s).stack (tidy_ticked (later / 1000) s both.tidy) (nobody_in empty)
    muted false e (inr same) = absurd (cc)

output_silent : (now later : ℕ) (s : StackState) → TidyRings s → Mute s → IsClocked now s → now ≤ later → IsBefore later (next_deadline s) → (output_at later s).hands ≡ None
output_silent now later s both mute clock le before =
    let none = before_first later s.alarms (next_try s.node.clock s.line) both.rings.sorted before in
    let c = clocked_calm later s both mute none (still now later s.node.clock s.line (earliest s.alarms) clock.clock le before) in
    let t = (clocked later s).stack in
    let a = asks_calm later (length t.line) t c.calm in
    let u = (turns (length t.line) (ask later) t).stack in
    then_silent (clocked later s) (λ t. then_turn (turns (length t.line) (ask later) t) (λ u. turns (length u.alarms) (wake later) u)) c.hands
    (then_silent (turns (length t.line) (ask later) t) (λ u. turns (length u.alarms) (wake later) u) a.hands (wakes_silent later (length u.alarms) u a.calm.none))

pub rests_until : (rows : List Row) (most : ℕ) (calls : List Call) (now later : ℕ) → most ≤ most_ends → (call (Output now) (stack_after (empty_stack rows most) calls)).answer ≡ Rests
    → now ≤ later → IsBefore later (next_deadline (call (Output now) (stack_after (empty_stack rows most) calls)).stack)
    → (call (Output later) (call (Output now) (stack_after (empty_stack rows most) calls)).stack).answer ≡ Rests
unfolding call
rests_until rows most calls now later fits rests le before =
    let s = stack_after (empty_stack rows most) calls in
    let h = run_rings (empty_stack rows most) calls fits (empty_rings rows most) in
    let u = (output_at now s).stack in
    ap handed_out (output_silent now later u (output_rings now s h) (output_mute now s h.tidy (rested_hands (output_at now s).hands rests)) (output_clock now s) le before)
