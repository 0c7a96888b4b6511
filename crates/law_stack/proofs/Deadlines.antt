-- After `output` rested no deadline is reached, and the next one is told.
use Rattle.std.proofs.Common.{◌≡◌, ℕ, zero, suc, ◌+◌, ◌*◌, ◌/◌, ◌<◌, ◌≤◌, ◌==◌, Bool, true, false, nat_le, List, [], ◌∷◌, ◌++◌, length, Option, Some, None, refl, sym, ◌∙◌, ◌⊎◌, inl, inr, if◌then◌else◌, arith}
use Rattle.std.proofs.lemmas.Bool.Decides.{nat_tests}
use Rattle.std.specs.Prelude.{is_some, min}
use Rattle.book_base.specs.declared.address.Pair.{Pair}
use Rattle.book_segments.proofs.Fields.{eqb_is, some_is}
use Rattle.book_endpoint.specs.States.{EndState}
use Rattle.book_keys.specs.Rows.{Row}
use Rattle.book_cmd_node.specs.NodeRuns.{NodeOutcome, Transmitted, NoUsableKey, held_end, most_ends}
use Rattle.book_stack.specs.declared.alarm.Alarm.{Alarm}
use Rattle.book_stack.specs.Alarms.{earliest, stands_in}
use Rattle.book_stack.specs.Calls.{Call, Output, Rests, call}
use Rattle.book_stack.specs.Runs.{stack_after}
use Rattle.book_stack.specs.Stacks.{StackState, empty_stack, next_try, sooner}
use Rattle.book_stack.specs.Turns.{Turn, ask, asked_first, asked_line, asked_pair, clocked, output_at, passing, spoken_by, then_turn, turns, wake, woken_first, woken_pair}
use Rattle.law_stack.specs.Resting.{IsBy, IsTimely}
use Rattle.law_stack.proofs.AtRest.{rested_hands, then_rests}
use Rattle.law_stack.proofs.Rings.{all_later, due, first_earliest}
use Rattle.law_stack.proofs.Timed.{Rings, TidyRings, asks_both, clocked_rings, empty_rings, output_rings, run_rings, wake_both, wake_rings}
use Rattle.law_stack.proofs.Turned.{clocked_anew}

-- ---- each alarm that is reached goes off

due_most : (now : ℕ) (xs : List Alarm) → due now xs ≤ length xs
due_most now [] = omega arith
due_most now (a ∷ xs) = at (nat_le a.deadline now) (due_most now xs)
  where
    at : (v : Bool) → due now xs ≤ length xs → (if v then 1 else 0) + due now xs ≤ suc (length xs)
    at true le = omega (arith, le)
    at false le = omega (arith, le)

record NoneDue (now : ℕ) (s : StackState) : Type 0 where
  none : due now s.alarms ≡ 0

wakes_none : (now n : ℕ) (s : StackState) → TidyRings s → due now s.alarms ≤ n → (turns n (wake now) s).hands ≡ None → NoneDue now (turns n (wake now) s).stack
wakes_none now zero s h few none = record { none = omega (arith, few) }
wakes_none now (suc n) s h few none =
    then_rests (NoneDue now) (wake now s) (turns n (wake now)) none (λ quiet rest.
    let u = (wake now s).stack in
    wakes_none now n u (wake_both now s h) (fewer (due now u.alarms) (wake_rings now s h.tidy h.rings).fewer) rest)
  where
    fewer : (k : ℕ) → (k ≡ 0) ⊎ (k + 1 ≤ due now s.alarms) → k ≤ n
    fewer k (inl none) = omega (arith, none)
    fewer k (inr less) = omega (arith, less, few)

-- ---- the clock of the ends

-- the clock of the ends is at the second of this time
pub record IsClocked (now : ℕ) (s : StackState) : Type 0 where
  pub clock : s.node.clock ≡ now / 1000

clocked_clock : (now : ℕ) (s : StackState) → IsClocked now (clocked now s).stack
clocked_clock now s = at (s.node.clock == now / 1000) refl
  where
    at : (v : Bool) → (s.node.clock == now / 1000) ≡ v → IsClocked now (let t : Turn = if v then passing s else clocked_anew now s in t.stack)
    at true e = record { clock = eqb_is s.node.clock (now / 1000) e }
    at false e = record { clock = refl }

ask_clock : (now : ℕ) (s : StackState) → IsClocked now s → IsClocked now (ask now s).stack
ask_clock now s h = at s.line
  where
    line : (p : Pair) (o : NodeOutcome) (t : StackState) → t.node.clock ≡ now / 1000 → IsClocked now (asked_line p o t)
    line p (Transmitted x) t e = record { clock = e }
    line p NoUsableKey t e = record { clock = e }
    line p o t e = record { clock = e }

    pair : (p : Pair) (ps : List Pair) (o : Option EndState) → IsClocked now (asked_pair now p (record s { line = ps }) o).stack
    pair p ps None = record { clock = h.clock }
    pair p ps (Some e) = line p (spoken_by (record s { line = ps }) p e).outcome _ h.clock

    at : (line : List Pair) → IsClocked now (asked_first now s line).stack
    at [] = h
    at (p ∷ ps) = pair p ps (held_end p s.node.ends)

wake_clock : (now : ℕ) (s : StackState) → IsClocked now s → IsClocked now (wake now s).stack
wake_clock now s h = at s.alarms
  where
    pair : (p : Pair) (rest : List Alarm) (o : Option EndState) → IsClocked now (woken_pair now p (record s { alarms = rest }) o).stack
    pair p rest None = record { clock = h.clock }
    pair p rest (Some e) = record { clock = h.clock }

    over : (a : Alarm) (rest : List Alarm) (v : Bool) → IsClocked now (let t : Turn = if v then woken_pair now a.pair (record s { alarms = rest }) (held_end a.pair s.node.ends) else passing s in t.stack)
    over a rest true = pair a.pair rest (held_end a.pair s.node.ends)
    over a rest false = h

    at : (alarms : List Alarm) → IsClocked now (woken_first now s alarms).stack
    at [] = h
    at (a ∷ rest) = over a rest (nat_le a.deadline now)

then_keeps : (P : StackState → Type 0) (t : Turn) (next : StackState → Turn) → P t.stack → ((u : StackState) → P u → P (next u).stack) → P (then_turn t next).stack
then_keeps P t next h go = at (is_some t.hands)
  where
    at : (v : Bool) → P (let r : Turn = if v then t else (let u = next t.stack in record { stack = u.stack; events = t.events ++ u.events; outcomes = t.outcomes ++ u.outcomes; hands = u.hands }) in r.stack)
    at true = h
    at false = go t.stack h

turns_keep : (P : StackState → Type 0) (n : ℕ) (turn : StackState → Turn) (s : StackState) → P s → ((u : StackState) → P u → P (turn u).stack) → P (turns n turn s).stack
turns_keep P zero turn s h go = h
turns_keep P (suc n) turn s h go = then_keeps P (turn s) (turns n turn) (go s h) (λ u k. turns_keep P n turn u k go)

pub output_clock : (now : ℕ) (s : StackState) → IsClocked now (output_at now s).stack
output_clock now s =
    let P = IsClocked now in
    then_keeps P (clocked now s) (λ t. then_turn (turns (length t.line) (ask now) t) (λ u. turns (length u.alarms) (wake now) u)) (clocked_clock now s) (λ t ht.
    then_keeps P (turns (length t.line) (ask now) t) (λ u. turns (length u.alarms) (wake now) u) (turns_keep P (length t.line) (ask now) t ht (ask_clock now)) (λ u hu.
    turns_keep P (length u.alarms) (wake now) u hu (wake_clock now)))

output_none : (now : ℕ) (s : StackState) → TidyRings s → (output_at now s).hands ≡ None → NoneDue now (output_at now s).stack
output_none now s h none =
    then_rests (NoneDue now) (clocked now s) (λ t. then_turn (turns (length t.line) (ask now) t) (λ u. turns (length u.alarms) (wake now) u)) none (λ quiet rest.
    let t = (clocked now s).stack in
    then_rests (NoneDue now) (turns (length t.line) (ask now) t) (λ u. turns (length u.alarms) (wake now) u) rest (λ quiet rest.
    let u = (turns (length t.line) (ask now) t).stack in
    wakes_none now (length u.alarms) u (asks_both now (length t.line) t (clocked_rings now s h)) (due_most now u.alarms) rest))

-- ---- the next deadline

by_first : (o x : Option ℕ) (e d : ℕ) → o ≡ Some e → e ≤ d → IsBy d (sooner o x)
by_first None x e d is le = absurd (cc)
by_first (Some f) None e d is le = omega (arith, some_is f e is, le)
by_first (Some f) (Some b) e d is le = omega (arith, some_is f e is, le)

by_second : (o : Option ℕ) (d : ℕ) → IsBy d (sooner o (Some d))
by_second None d = omega arith
by_second (Some a) d = omega arith

tried_line : (o : Option ℕ) (clock : ℕ) (line : List Pair) (p : Pair) → stands_in p line ≡ true → IsBy (1000 * (clock + 1)) (sooner o (next_try clock line))
tried_line o clock [] p e = absurd (cc)
tried_line o clock (q ∷ qs) p e = by_second o (1000 * (clock + 1))

-- a deadline, if there is one, is after now
abbrev IsAhead : ℕ → Option ℕ → Type 0
IsAhead now o = (d : ℕ) → o ≡ Some d → now < d

earliest_ahead : (now : ℕ) (xs : List Alarm) → due now xs ≡ 0 → IsAhead now (earliest xs)
earliest_ahead now [] none d e = absurd (cc)
earliest_ahead now (a ∷ xs) none d e = at (nat_le a.deadline now) refl none
  where
    at : (v : Bool) → nat_le a.deadline now ≡ v → (if v then 1 else 0) + due now xs ≡ 0 → now < d
    at true r none = absurd (omega (arith, none))
    at false r none = let less : now < a.deadline = grind (arith, nat_tests, r) in omega (arith, less, some_is a.deadline d e)

try_ahead : (now clock : ℕ) (line : List Pair) → clock ≡ now / 1000 → IsAhead now (next_try clock line)
try_ahead now clock [] is d e = absurd (cc)
try_ahead now clock (p ∷ ps) is d e = omega (arith, is, some_is (1000 * (clock + 1)) d e)

sooner_ahead : (now : ℕ) (o x : Option ℕ) → IsAhead now o → IsAhead now x → IsAhead now (sooner o x)
sooner_ahead now None x a b d e = b d e
sooner_ahead now (Some f) None a b d e = a d e
sooner_ahead now (Some f) (Some g) a b d e = omega (arith, a f refl, b g refl, some_is (min f g) d e)

timely : (now : ℕ) (s : StackState) → Rings s → NoneDue now s → IsClocked now s → IsTimely now s
timely now s h none clock = record {
  later = λ p d e. all_later now s.alarms p d none.none (sym (h.same p refl) ∙ e);
  told = λ p d e. let f = first_earliest s.alarms p d h.sorted (sym (h.same p refl) ∙ e) in by_first (earliest s.alarms) (next_try s.node.clock s.line) f.0 d f.1 f.2;
  tried = λ p e. tried_line (earliest s.alarms) s.node.clock s.line p e;
  ahead = sooner_ahead now (earliest s.alarms) (next_try s.node.clock s.line) (earliest_ahead now s.alarms none.none) (try_ahead now s.node.clock s.line clock.clock);
}

pub are_timely : (rows : List Row) (most : ℕ) (calls : List Call) (now : ℕ) → most ≤ most_ends → (call (Output now) (stack_after (empty_stack rows most) calls)).answer ≡ Rests
    → IsTimely now (call (Output now) (stack_after (empty_stack rows most) calls)).stack
unfolding call
are_timely rows most calls now fits rests =
    let s = stack_after (empty_stack rows most) calls in
    let h = run_rings (empty_stack rows most) calls fits (empty_rings rows most) in
    timely now (output_at now s).stack (output_rings now s h).rings (output_none now s h (rested_hands (output_at now s).hands rests)) (output_clock now s)
