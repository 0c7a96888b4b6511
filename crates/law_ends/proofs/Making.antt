-- Which plain events a call makes.
use Rattle.std.proofs.Common.{ℕ, zero, suc, ◌/◌, ◌==◌, Bool, true, false, nat_le, List, [], ◌∷◌, ◌++◌, length, Option, Some, None, Ok, Err, if◌then◌else◌}
use Rattle.std.specs.Prelude.{is_some}
use Rattle.std.specs.List.{AllByRecursion}
use Rattle.book_base.specs.declared.address.Pair.{Pair}
use Rattle.book_segments.specs.Segments.{Segment, Reading, Read, Bad as Unread, pair_reached}
use Rattle.book_endpoint.specs.States.{EndState}
use Rattle.book_endpoint.specs.Verdicts.{Judgement}
use Rattle.book_cmd_node.specs.declared.node.Act.TheVariants as act
use Rattle.book_cmd_node.specs.declared.node.NodeEvent.{NodeEvent}
use Rattle.book_cmd_node.specs.declared.node.NodeEvent.TheVariants as event
use Rattle.book_cmd_node.specs.NodeRuns.{held_end}
use Rattle.book_stack.specs.declared.alarm.Alarm.{Alarm}
use Rattle.book_stack.specs.Calls.{Incoming, Did, asked_for, heard_pair, met, bytes_received}
use Rattle.book_stack.specs.Stacks.{StackState, asking_judged, asks}
use Rattle.law_stack.proofs.Turned.{clocked_anew}
use Rattle.book_stack.specs.Turns.{Turn, ask, asked_first, asked_pair, clocked, output_at, passing, then_turn, turns, wake, woken_first, woken_pair}

pub all_joined : (P : NodeEvent → Type 0) (xs ys : List NodeEvent) → AllByRecursion P xs → AllByRecursion P ys → AllByRecursion P (xs ++ ys)
all_joined P [] ys a b = b
all_joined P (x ∷ xs) ys a b = (a.0, all_joined P xs ys a.1 b)

-- ---- of bytes that come

module _ (P : NodeEvent → Type 0) (coming : Incoming) (injects : P (event.Inject coming.bytes)) where
  heard_makes : (p : Pair) (d : Segment) (s : StackState) (o : Option EndState) → AllByRecursion P (heard_pair coming p d s o).events
  heard_makes p d s None = (injects, tt)
  heard_makes p d s (Some e) = (injects, tt)

  asked_makes : (d : Segment) (s : StackState) (o : Option EndState) (j : Judgement) → AllByRecursion P (asked_for coming d s o j).events
  asked_makes d s o (Ok p) = tt
  asked_makes d s None (Err why) = tt
  asked_makes d s (Some e) (Err why) = heard_makes (pair_reached d) d s (Some e)

  met_makes : (d : Segment) (s : StackState) (o : Option EndState) → AllByRecursion P (met coming d s o).events
  met_makes d s o = at (asks d o)
    where
      at : (v : Bool) → AllByRecursion P (let x : Did = if v then asked_for coming d s o (asking_judged s d) else heard_pair coming (pair_reached d) d s o in x.events)
      at true = asked_makes d s o (asking_judged s d)
      at false = heard_makes (pair_reached d) d s o

  pub received_makes : (r : Reading) (s : StackState) → AllByRecursion P (bytes_received coming r s).events
  received_makes (Unread fault) s = (injects, tt)
  received_makes (Read d) s = met_makes d s (held_end (pair_reached d) s.node.ends)

-- ---- of turns

-- all plain events of a turn are so
abbrev MakesAll : (NodeEvent → Type 0) → Turn → Type 0
MakesAll P t = AllByRecursion P t.events

pub clocked_makes : (P : NodeEvent → Type 0) (now : ℕ) → P (event.Clock (now / 1000)) → (s : StackState) → AllByRecursion P (clocked now s).events
clocked_makes P now one s = at (s.node.clock == now / 1000)
  where
    at : (v : Bool) → AllByRecursion P (let t : Turn = if v then passing s else clocked_anew now s in t.events)
    at true = tt
    at false = (one, tt)

module _ (P : NodeEvent → Type 0) (now : ℕ) (clocks : P (event.Clock (now / 1000))) (sends : (p : Pair) → P (event.On p act.Send)) (resends : (p : Pair) → P (event.On p act.Resend)) where
  then_makes : (t : Turn) (next : StackState → Turn) → AllByRecursion P t.events → ((s : StackState) → AllByRecursion P (next s).events) → AllByRecursion P (then_turn t next).events
  then_makes t next one more = at (is_some t.hands)
    where
      at : (v : Bool) → AllByRecursion P (let x : Turn = if v then t else (let u = next t.stack in record { stack = u.stack; events = t.events ++ u.events; outcomes = t.outcomes ++ u.outcomes; hands = u.hands }) in x.events)
      at true = one
      at false = all_joined P t.events (next t.stack).events one (more t.stack)

  turns_make : (n : ℕ) (turn : StackState → Turn) → ((s : StackState) → AllByRecursion P (turn s).events) → (s : StackState) → AllByRecursion P (turns n turn s).events
  turns_make zero turn one s = tt
  turns_make (suc n) turn one s = then_makes (turn s) (turns n turn) (one s) (turns_make n turn one)

  due_makes : (p : Pair) (s : StackState) (o : Option EndState) → AllByRecursion P (asked_pair now p s o).events
  due_makes p s None = tt
  due_makes p s (Some e) = (sends p, tt)

  ask_makes : (s : StackState) → AllByRecursion P (ask now s).events
  ask_makes s = at s.line
    where
      at : (line : List Pair) → AllByRecursion P (asked_first now s line).events
      at [] = tt
      at (p ∷ ps) = due_makes p (record s { line = ps }) (held_end p s.node.ends)

  woken_makes : (p : Pair) (s : StackState) (o : Option EndState) → AllByRecursion P (woken_pair now p s o).events
  woken_makes p s None = tt
  woken_makes p s (Some e) = (resends p, tt)

  wake_makes : (s : StackState) → AllByRecursion P (wake now s).events
  wake_makes s = at s.alarms
    where
      due : (a : Alarm) (rest : List Alarm) (v : Bool) → AllByRecursion P (let t : Turn = if v then woken_pair now a.pair (record s { alarms = rest }) (held_end a.pair s.node.ends) else passing s in t.events)
      due a rest true = woken_makes a.pair (record s { alarms = rest }) (held_end a.pair s.node.ends)
      due a rest false = tt

      at : (alarms : List Alarm) → AllByRecursion P (woken_first now s alarms).events
      at [] = tt
      at (a ∷ rest) = due a rest (nat_le a.deadline now)

  pub output_makes : (s : StackState) → AllByRecursion P (output_at now s).events
  output_makes s =
      then_makes (clocked now s) (λ t. then_turn (turns (length t.line) (ask now) t) (λ u. turns (length u.alarms) (wake now) u)) (clocked_makes P now clocks s)
      (λ t. then_makes (turns (length t.line) (ask now) t) (λ u. turns (length u.alarms) (wake now) u) (turns_make (length t.line) (ask now) ask_makes t) (λ u. turns_make (length u.alarms) (wake now) wake_makes u))
