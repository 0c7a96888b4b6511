-- What turns do to the node of a stack.
use Rattle.std.proofs.Common.{◌≡◌, ℕ, zero, suc, Bool, true, false, List, [], ◌∷◌, ◌++◌, length, Option, Some, None, ◌≤◌, refl, sym, ap, ◌∙◌}
use Rattle.std.specs.List.{list_any}
use Rattle.std.specs.Prelude.{not, ◌||◌, ◌/◌, ◌==◌, nat_le, is_some, if◌then◌else◌}
use Rattle.book_base.specs.declared.address.Pair.{Pair}
use Rattle.book_keys.specs.Rows.{Row}
use Rattle.book_endpoint.specs.States.{EndState}
use Rattle.book_endpoint.specs.Emissions.{Emitted, Quiet, NoKey, Emits, emit, resend}
use Rattle.book_cmd_node.specs.declared.node.Act.{Act}
use Rattle.book_cmd_node.specs.declared.node.Act.TheVariants as act
use Rattle.book_cmd_node.specs.declared.node.NodeEvent.{NodeEvent}
use Rattle.book_cmd_node.specs.declared.node.NodeEvent.TheVariants as event
use Rattle.book_cmd_node.specs.NodeRuns.{NodeState, NodeStep, after_call, on_held, on_pair, NodeOutcome, Performed, NothingToSend, NothingToResend, made_called, ends_ticked, Transmitted, NoUsableKey, held_end, most_ends, node_step, node_from, node_outcomes_from}
use Rattle.book_stack.specs.declared.alarm.Alarm.{Alarm}
use Rattle.book_stack.specs.Stacks.{StackState, watched}
use Rattle.book_stack.specs.Watches.{awaits}
use Rattle.book_stack.specs.Turns.{Turn, asked_watch, change_by, called_at, passing, then_turn, turns, clocked, asked_line, asked_pair, asked_first, ask, spoken_by, woken_end, woken_pair, woken_first, wake, repeated_by, output_at}
use Rattle.law_node.specs.Alone.{is_placed}

-- none of these answers is that the node is full
abbrev pub ArePlaced : List NodeOutcome → Type 0
ArePlaced os = list_any (λ o. not (is_placed o)) os ≡ false

placed_joined : (os ps : List NodeOutcome) → ArePlaced os → ArePlaced ps → ArePlaced (os ++ ps)
placed_joined [] ps a b = b
placed_joined (o ∷ os) ps a b = at (is_placed o) a (placed_joined os ps)
  where
    at : (v : Bool) → (not v || list_any (λ o. not (is_placed o)) os) ≡ false → (ArePlaced os → ArePlaced ps → ArePlaced (os ++ ps)) → (not v || list_any (λ o. not (is_placed o)) (os ++ ps)) ≡ false
    at true a next = next a b
    at false a next = absurd (cc)

pub placed_one : (o : NodeOutcome) → is_placed o ≡ true → ArePlaced (o ∷ [])
placed_one o e = rw e refl

-- the stack t stands where plain events lead from s, with these answers and no change of rows
pub record Follows (s t : StackState) (events : List NodeEvent) (outcomes : List NodeOutcome) : Type 0 where
  pub rows : t.rows ≡ s.rows
  pub most : t.most ≡ s.most
  pub placed : s.most ≤ most_ends → ArePlaced outcomes
  pub node : t.node ≡ node_from most_ends s.rows s.node events
  pub told : outcomes ≡ node_outcomes_from most_ends s.rows s.node events

-- what a turn did is plain
abbrev pub IsPlainTurn : StackState → Turn → Type 0
IsPlainTurn s t = Follows s t.stack t.events t.outcomes

pub node_joined : (most : ℕ) (rows : List Row) (n : NodeState) (es fs : List NodeEvent)
    → node_from most rows n (es ++ fs) ≡ node_from most rows (node_from most rows n es) fs
node_joined most rows n [] fs = refl
node_joined most rows n (e ∷ es) fs = node_joined most rows (node_step most rows n e).node es fs

pub outcomes_joined : (most : ℕ) (rows : List Row) (n : NodeState) (es fs : List NodeEvent)
    → node_outcomes_from most rows n (es ++ fs) ≡ node_outcomes_from most rows n es ++ node_outcomes_from most rows (node_from most rows n es) fs
outcomes_joined most rows n [] fs = refl
outcomes_joined most rows n (e ∷ es) fs =
    ap (λ (os : List NodeOutcome). (node_step most rows n e).outcome ∷ os) (outcomes_joined most rows (node_step most rows n e).node es fs)

pub follows_on : (s t u : StackState) (es fs : List NodeEvent) (os ps : List NodeOutcome) → Follows s t es os → Follows t u fs ps → Follows s u (es ++ fs) (os ++ ps)
follows_on s t u es fs os ps a b = record {
  rows = b.rows ∙ a.rows;
  most = b.most ∙ a.most;
  placed = λ fits. placed_joined os ps (a.placed fits) (b.placed (rw (a.most) fits));
  node = b.node ∙ rw (a.rows, a.node) (sym (node_joined most_ends s.rows s.node es fs));
  told = rw (outcomes_joined most_ends s.rows s.node es fs, b.told, a.told, a.rows, a.node) refl;
}

-- one event, by what its step is
pub follows_one : (s t : StackState) (e : NodeEvent) (step : NodeStep) → node_step most_ends s.rows s.node e ≡ step
    → t.rows ≡ s.rows → t.most ≡ s.most → t.node ≡ step.node → is_placed step.outcome ≡ true → Follows s t (e ∷ []) (step.outcome ∷ [])
follows_one s t e step is rows most node placed = record {
  rows = rows;
  most = most;
  placed = λ fits. placed_one step.outcome placed;
  node = node ∙ ap (λ (x : NodeStep). x.node) (sym is);
  told = ap (λ (x : NodeStep). x.outcome ∷ []) (sym is);
}

-- the step of an act on an end that is held
pub step_held : (rows : List Row) (n : NodeState) (pair : Pair) (a : Act) (x : EndState) → held_end pair n.ends ≡ Some x → node_step most_ends rows n (event.On pair a) ≡ on_held rows n pair x a
step_held rows n pair a x e = ap (on_pair most_ends rows n (record { pair = pair; act = a })) e

pub passing_plain : (s : StackState) → IsPlainTurn s (passing s)
passing_plain s = record { rows = refl; most = refl; placed = λ fits. refl; node = refl; told = refl }

pub then_plain : (s : StackState) (t : Turn) (next : StackState → Turn) → IsPlainTurn s t → ((u : StackState) → IsPlainTurn u (next u)) → IsPlainTurn s (then_turn t next)
then_plain s t next a b = at (is_some t.hands)
  where
    at : (v : Bool) → IsPlainTurn s (if v then t else (let u = next t.stack in record { stack = u.stack; events = t.events ++ u.events; outcomes = t.outcomes ++ u.outcomes; hands = u.hands }))
    at true = a
    at false = let u = next t.stack in follows_on s t.stack u.stack t.events u.events t.outcomes u.outcomes a (b t.stack)

pub turns_plain : (n : ℕ) (turn : StackState → Turn) (s : StackState) → ((u : StackState) → IsPlainTurn u (turn u)) → IsPlainTurn s (turns n turn s)
turns_plain zero turn s one = passing_plain s
turns_plain (suc n) turn s one = then_plain s (turn s) (turns n turn) (one s) (λ u. turns_plain n turn u one)

-- the turn of the clock where it isn't there
abbrev pub clocked_anew : ℕ → StackState → Turn
clocked_anew now s = record {
  stack = record s { node = record { clock = now / 1000; ends = ends_ticked (now / 1000) s.node.ends } };
  events = event.Clock (now / 1000) ∷ [];
  outcomes = Performed ∷ [];
  hands = None;
}

pub clocked_plain : (now : ℕ) (s : StackState) → IsPlainTurn s (clocked now s)
clocked_plain now s = at (s.node.clock == now / 1000)
  where
    at : (v : Bool) → IsPlainTurn s (if v then passing s else clocked_anew now s)
    at true = passing_plain s
    at false = record { rows = refl; most = refl; placed = λ fits. refl; node = refl; told = refl }

asked_line_node : (pair : Pair) (o : NodeOutcome) (s : StackState) → (asked_line pair o s).node ≡ s.node
asked_line_node pair (Transmitted x) s = refl
asked_line_node pair NoUsableKey s = refl
asked_line_node pair o s = refl

asked_line_rows : (pair : Pair) (o : NodeOutcome) (s : StackState) → (asked_line pair o s).rows ≡ s.rows
asked_line_rows pair (Transmitted x) s = refl
asked_line_rows pair NoUsableKey s = refl
asked_line_rows pair o s = refl

asked_line_most : (pair : Pair) (o : NodeOutcome) (s : StackState) → (asked_line pair o s).most ≡ s.most
asked_line_most pair (Transmitted x) s = refl
asked_line_most pair NoUsableKey s = refl
asked_line_most pair o s = refl

-- a call that makes a segment or none doesn't answer that the node is full
pub made_placed : (x : EndState) (no_segment : NodeOutcome) (m : Emitted) → is_placed no_segment ≡ true → is_placed (made_called x no_segment m).outcome ≡ true
made_placed x no_segment Quiet e = e
made_placed x no_segment NoKey e = refl
made_placed x no_segment (Emits out) e = refl

asked_plain : (now : ℕ) (pair : Pair) (s : StackState) (o : Option EndState) → held_end pair s.node.ends ≡ o → IsPlainTurn s (asked_pair now pair s o)
asked_plain now pair s None e = passing_plain s
asked_plain now pair s (Some x) e =
    let c = spoken_by s pair x in
    let w = watched pair (asked_watch now (change_by x c) (awaits c.state) c.outcome (s.watches pair)) (called_at pair c s) in
    follows_one s (asked_line pair c.outcome w) (event.On pair act.Send) (after_call s.node pair c) (step_held s.rows s.node pair act.Send x e)
    (asked_line_rows pair c.outcome w) (asked_line_most pair c.outcome w) (asked_line_node pair c.outcome w) (made_placed x NothingToSend (emit s.rows pair s.node.clock x) refl)

ask_plain : (now : ℕ) (s : StackState) → IsPlainTurn s (ask now s)
ask_plain now s = at s.line
  where
    at : (line : List Pair) → IsPlainTurn s (asked_first now s line)
    at [] = passing_plain s
    at (p ∷ ps) = let t = asked_plain now p (record s { line = ps }) (held_end p s.node.ends) refl in record { rows = t.rows; most = t.most; placed = t.placed; node = t.node; told = t.told }

woken_plain : (now : ℕ) (pair : Pair) (s : StackState) (o : Option EndState) → held_end pair s.node.ends ≡ o → IsPlainTurn s (woken_pair now pair s o)
woken_plain now pair s None e = passing_plain s
woken_plain now pair s (Some x) e =
    let c = repeated_by s pair x in
    follows_one s (woken_end now pair x c s).stack (event.On pair act.Resend) (after_call s.node pair c) (step_held s.rows s.node pair act.Resend x e)
    refl refl refl (made_placed x NothingToResend (resend s.rows pair s.node.clock x) refl)

wake_plain : (now : ℕ) (s : StackState) → IsPlainTurn s (wake now s)
wake_plain now s = at s.alarms
  where
    over : (a : Alarm) (rest : List Alarm) (v : Bool) → IsPlainTurn s (if v then woken_pair now a.pair (record s { alarms = rest }) (held_end a.pair s.node.ends) else passing s)
    over a rest true = let t = woken_plain now a.pair (record s { alarms = rest }) (held_end a.pair s.node.ends) refl in record { rows = t.rows; most = t.most; placed = t.placed; node = t.node; told = t.told }
    over a rest false = passing_plain s

    at : (alarms : List Alarm) → IsPlainTurn s (woken_first now s alarms)
    at [] = passing_plain s
    at (a ∷ rest) = over a rest (nat_le a.deadline now)

-- the turns of a call of output are plain
pub output_plain : (now : ℕ) (s : StackState) → IsPlainTurn s (output_at now s)
output_plain now s =
    then_plain s (clocked now s) (λ t. then_turn (turns (length t.line) (ask now) t) (λ u. turns (length u.alarms) (wake now) u)) (clocked_plain now s) (λ t.
    then_plain t (turns (length t.line) (ask now) t) (λ u. turns (length u.alarms) (wake now) u) (turns_plain (length t.line) (ask now) t (ask_plain now)) (λ u.
    turns_plain (length u.alarms) (wake now) u (wake_plain now)))
