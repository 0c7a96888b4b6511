-- What a call does to the node of a stack.
use Rattle.std.proofs.Common.{◌≡◌, ℕ, Bool, true, false, List, [], ◌∷◌, length, Option, Some, None, Result, Ok, Err, ◌<◌, refl, ap, ◌∙◌, arith}
use Rattle.std.proofs.lemmas.Bool.Decides.{nat_tests}
use Rattle.std.specs.Prelude.{not, nat_lt, nat_le, if◌then◌else◌}
use Rattle.book_base.specs.declared.address.Pair.{Pair}
use Rattle.book_segments.specs.Segments.{Segment, Reading, Read, Bad as Unread, reading}
use Rattle.book_keys.specs.Tables.{Adding, AddedAs, adding, row_of_new, withdrawn}
use Rattle.book_keys.specs.Rows.{Row}
use Rattle.book_endpoint.specs.declared.arrival.Arrival.{Arrival}
use Rattle.book_endpoint.specs.declared.arrival.Arrival.TheVariants.{Bad}
use Rattle.book_endpoint.specs.States.{EndState, connected, listening, started, give, gives, room}
use Rattle.book_endpoint.specs.Emissions.{emit, resend}
use Rattle.book_endpoint.specs.Arrivals.{arrive}
use Rattle.book_endpoint.specs.Verdicts.{Judgement}
use Rattle.book_cmd_node.specs.declared.node.Act.{Act}
use Rattle.book_cmd_node.specs.declared.node.Act.TheVariants as act
use Rattle.book_cmd_node.specs.declared.node.NodeEvent.{NodeEvent}
use Rattle.book_cmd_node.specs.declared.node.NodeEvent.TheVariants as event
use Rattle.book_cmd_node.specs.NodeRuns.{NodeState, NodeStep, after_call, NoConnection, arrived_at, injected, on_other, on_pair, stays, NodeOutcome, Called, Performed, NothingToSend, NothingToResend, new_end, on_held, DatagramAnswered, NoRoom, ConnectionClosing, InUse, NodeFull, called, held_end, most_ends, node_from, node_outcomes_from, node_step}
use Rattle.book_segments.specs.Segments.{pair_reached}
use Rattle.book_stack.specs.declared.front.Change.{Change}
use Rattle.book_stack.specs.Watches.{arrived, is_heard}
use Rattle.book_stack.specs.Stacks.{StackState, asking_judged, asks, touched, watched}
use Rattle.book_stack.specs.Turns.{called_at, change_by, clocked}
use Rattle.book_stack.specs.Calls.{Call, At, Input, Output, Add, Withdraw, Incoming, Did, Told, Knocks, Refuses, asked_for, call, kept, plain_step, stepped, at_other, at_pair, begun, asking, unasked, after_segment_heard, heard_pair, met, bytes_received, added, withdrew}
use Rattle.book_stack.specs.Runs.{keeps_rows}
use Rattle.law_node.specs.Alone.{is_placed}
use Rattle.law_stack.proofs.Turned.{Follows, follows_one, step_held, placed_one, made_placed, follows_on, clocked_plain, output_plain}

-- what a call did is plain, and it kept the rows
abbrev pub IsPlainCall : StackState → Did → Type 0
IsPlainCall s d = Follows s d.stack d.events d.outcomes

kept_node : (pair : Pair) (a : Act) (o : NodeOutcome) (s : StackState) → (kept pair a o s).node ≡ s.node
kept_node pair act.Remove o s = refl
kept_node pair a InUse s = refl
kept_node pair a NoRoom s = refl
kept_node pair a ConnectionClosing s = refl
kept_node pair a o s = refl

kept_rows : (pair : Pair) (a : Act) (o : NodeOutcome) (s : StackState) → (kept pair a o s).rows ≡ s.rows
kept_rows pair act.Remove o s = refl
kept_rows pair a InUse s = refl
kept_rows pair a NoRoom s = refl
kept_rows pair a ConnectionClosing s = refl
kept_rows pair a o s = refl

kept_most : (pair : Pair) (a : Act) (o : NodeOutcome) (s : StackState) → (kept pair a o s).most ≡ s.most
kept_most pair act.Remove o s = refl
kept_most pair a InUse s = refl
kept_most pair a NoRoom s = refl
kept_most pair a ConnectionClosing s = refl
kept_most pair a o s = refl

-- an act on an end that is held doesn't find the node full
held_placed : (rows : List Row) (n : NodeState) (pair : Pair) (x : EndState) (a : Act) → is_placed (on_held rows n pair x a).outcome ≡ true
held_placed rows n pair x (act.Give piece) = by_closed (gives x)
  where
    by_full : (v : Bool) → is_placed (let c : Called = if v then called x NoRoom else called (give piece x) Performed in c.outcome) ≡ true
    by_full true = refl
    by_full false = refl

    by_closed : (v : Bool) → is_placed (let c : Called = if not v then called x ConnectionClosing else (if nat_lt (room x) (length piece) then called x NoRoom else called (give piece x) Performed) in c.outcome) ≡ true
    by_closed false = refl
    by_closed true = by_full (nat_lt (room x) (length piece))
held_placed rows n pair x act.Send = made_placed x NothingToSend (emit rows pair n.clock x) refl
held_placed rows n pair x act.Resend = made_placed x NothingToResend (resend rows pair n.clock x) refl
held_placed rows n pair x a = refl

-- a new end finds its place where fewer than 1024 are held
new_placed : (n : NodeState) (pair : Pair) (x : EndState) → length n.ends < most_ends → is_placed (new_end most_ends n pair x).outcome ≡ true
new_placed n pair x few = let less : nat_le most_ends (length n.ends) ≡ false = grind (arith, nat_tests) in rw less refl

unasked_plain : (s : StackState) (answer : _) → IsPlainCall s (unasked s answer)
unasked_plain s answer = record { rows = refl; most = refl; placed = λ fits. refl; node = refl; told = refl }

-- the step finds a place
abbrev is_placed_step : NodeStep → Bool
is_placed_step step = is_placed step.outcome

begun_plain : (pair : Pair) (a : Act) (s : StackState) → (length s.node.ends < most_ends → is_placed (plain_step s (event.On pair a)).outcome ≡ true) → IsPlainCall s (begun pair a s)
begun_plain pair a s place = at (nat_le s.most (length s.node.ends)) refl
  where
    at : (v : Bool) → nat_le s.most (length s.node.ends) ≡ v → IsPlainCall s (if v then unasked s (Told NodeFull) else (let step = plain_step s (event.On pair a) in asking (touched pair (stepped s step)) (event.On pair a) step.outcome))
    at true less = unasked_plain s (Told NodeFull)
    at false less = record {
      rows = refl;
      most = refl;
      placed = λ fits. let few : length s.node.ends < s.most = grind (arith, nat_tests, less) in placed_one (plain_step s (event.On pair a)).outcome (place (omega (arith, few, fits)));
      node = refl;
      told = refl;
    }

-- the step of an act on a pair that isn't held
step_other : (rows : List Row) (n : NodeState) (pair : Pair) (a : Act) → held_end pair n.ends ≡ None → node_step most_ends rows n (event.On pair a) ≡ on_other most_ends n pair a
step_other rows n pair a e = ap (on_pair most_ends rows n (record { pair = pair; act = a })) e

-- an event at a connection that isn't there
nothing_done : (s : StackState) (e : NodeEvent) → node_step most_ends s.rows s.node e ≡ stays s.node NoConnection → Follows s s (e ∷ []) (NoConnection ∷ [])
nothing_done s e is = follows_one s s e (stays s.node NoConnection) is refl refl refl refl

other_plain : (pair : Pair) (a : Act) (s : StackState) → held_end pair s.node.ends ≡ None → IsPlainCall s (at_other pair a s)
other_plain pair (act.Open isn) s e = begun_plain pair (act.Open isn) s (λ few. ap is_placed_step (step_other s.rows s.node pair (act.Open isn) e) ∙ new_placed s.node pair (connected pair isn) few)
other_plain pair (act.Listen isn) s e = begun_plain pair (act.Listen isn) s (λ few. ap is_placed_step (step_other s.rows s.node pair (act.Listen isn) e) ∙ new_placed s.node pair (listening pair isn) few)
other_plain pair (act.Start isn peer) s e = begun_plain pair (act.Start isn peer) s (λ few. ap is_placed_step (step_other s.rows s.node pair (act.Start isn peer) e) ∙ new_placed s.node pair (started pair isn peer) few)
other_plain pair (act.Give piece) s e = nothing_done s (event.On pair (act.Give piece)) (step_other s.rows s.node pair (act.Give piece) e)
other_plain pair (act.Take count) s e = nothing_done s (event.On pair (act.Take count)) (step_other s.rows s.node pair (act.Take count) e)
other_plain pair act.Send s e = nothing_done s (event.On pair act.Send) (step_other s.rows s.node pair act.Send e)
other_plain pair act.Resend s e = nothing_done s (event.On pair act.Resend) (step_other s.rows s.node pair act.Resend e)
other_plain pair act.Close s e = nothing_done s (event.On pair act.Close) (step_other s.rows s.node pair act.Close e)
other_plain pair act.Abort s e = nothing_done s (event.On pair act.Abort) (step_other s.rows s.node pair act.Abort e)
other_plain pair act.Remove s e = nothing_done s (event.On pair act.Remove) (step_other s.rows s.node pair act.Remove e)

pair_plain : (pair : Pair) (a : Act) (s : StackState) (o : Option EndState) → held_end pair s.node.ends ≡ o → IsPlainCall s (at_pair pair a s o)
pair_plain pair a s None e = other_plain pair a s e
pair_plain pair a s (Some x) e = let step = plain_step s (event.On pair a) in record {
  rows = kept_rows pair a step.outcome (stepped s step);
  most = kept_most pair a step.outcome (stepped s step);
  placed = λ fits. placed_one step.outcome (ap is_placed_step (step_held s.rows s.node pair a x e) ∙ held_placed s.rows s.node pair x a);
  node = kept_node pair a step.outcome (stepped s step);
  told = refl;
}

heard_node : (now : ℕ) (pair : Pair) (answer : Arrival) (c : Change) (s : StackState) → (after_segment_heard now pair answer c s).node ≡ s.node
heard_node now pair answer c s = at (is_heard answer)
  where
    at : (v : Bool) → (let t : StackState = if v then touched pair (watched pair (arrived now c (s.watches pair)) s) else s in t.node) ≡ s.node
    at true = refl
    at false = refl

heard_rows : (now : ℕ) (pair : Pair) (answer : Arrival) (c : Change) (s : StackState) → (after_segment_heard now pair answer c s).rows ≡ s.rows
heard_rows now pair answer c s = at (is_heard answer)
  where
    at : (v : Bool) → (let t : StackState = if v then touched pair (watched pair (arrived now c (s.watches pair)) s) else s in t.rows) ≡ s.rows
    at true = refl
    at false = refl

heard_most : (now : ℕ) (pair : Pair) (answer : Arrival) (c : Change) (s : StackState) → (after_segment_heard now pair answer c s).most ≡ s.most
heard_most now pair answer c s = at (is_heard answer)
  where
    at : (v : Bool) → (let t : StackState = if v then touched pair (watched pair (arrived now c (s.watches pair)) s) else s in t.most) ≡ s.most
    at true = refl
    at false = refl

-- the step of bytes that are read
step_read : (rows : List Row) (n : NodeState) (bytes : List ℕ) (d : Segment) (o : Option EndState) → reading bytes ≡ Read d → held_end (pair_reached d) n.ends ≡ o
    → node_step most_ends rows n (event.Inject bytes) ≡ arrived_at rows n (pair_reached d) (Read d) o
step_read rows n bytes d o r e = ap (injected rows n) r ∙ ap (arrived_at rows n (pair_reached d) (Read d)) e

heard_plain : (coming : Incoming) (d : Segment) (s : StackState) (o : Option EndState) → reading coming.bytes ≡ Read d → held_end (pair_reached d) s.node.ends ≡ o
    → IsPlainCall s (heard_pair coming (pair_reached d) d s o)
heard_plain coming d s None r e = nothing_done s (event.Inject coming.bytes) (step_read s.rows s.node coming.bytes d None r e)
heard_plain coming d s (Some x) r e =
    let a = arrive s.rows (pair_reached d) s.node.clock x (Read d) in
    let c = called a.state (DatagramAnswered a.answer) in
    let t = called_at (pair_reached d) c s in
    follows_one s (after_segment_heard coming.now (pair_reached d) a.answer (change_by x c) t) (event.Inject coming.bytes) (after_call s.node (pair_reached d) c)
    (step_read s.rows s.node coming.bytes d (Some x) r e)
    (heard_rows coming.now (pair_reached d) a.answer (change_by x c) t) (heard_most coming.now (pair_reached d) a.answer (change_by x c) t) (heard_node coming.now (pair_reached d) a.answer (change_by x c) t) refl

met_plain : (coming : Incoming) (d : Segment) (s : StackState) (o : Option EndState) → reading coming.bytes ≡ Read d → held_end (pair_reached d) s.node.ends ≡ o
    → IsPlainCall s (met coming d s o)
met_plain coming d s o r e = at (asks d o)
  where
    asked : (o : Option EndState) (j : Judgement) → held_end (pair_reached d) s.node.ends ≡ o → IsPlainCall s (asked_for coming d s o j)
    asked o (Ok p) e = unasked_plain s (Knocks (pair_reached d))
    asked None (Err why) e = unasked_plain s (Refuses why)
    asked (Some x) (Err why) e = heard_plain coming d s (Some x) r e

    at : (v : Bool) → IsPlainCall s (if v then asked_for coming d s o (asking_judged s d) else heard_pair coming (pair_reached d) d s o)
    at true = asked o (asking_judged s d) e
    at false = heard_plain coming d s o r e

came_plain : (coming : Incoming) (s : StackState) (r : Reading) → reading coming.bytes ≡ r → IsPlainCall s (bytes_received coming r s)
came_plain coming s (Unread fault) e =
    follows_one s s (event.Inject coming.bytes) (stays s.node (DatagramAnswered (Bad fault))) (ap (injected s.rows s.node) e) refl refl refl refl
came_plain coming s (Read d) e = met_plain coming d s (held_end (pair_reached d) s.node.ends) e refl

-- a call that keeps the rows is plain
pub call_plain : (c : Call) (s : StackState) → keeps_rows (c ∷ []) ≡ true → IsPlainCall s (call c s)
unfolding call
call_plain (At pair a) s k = pair_plain pair a s (held_end pair s.node.ends) refl
call_plain (Input coming) s k =
    let t = clocked coming.now s in
    let d = bytes_received coming (reading coming.bytes) t.stack in
    follows_on s t.stack d.stack t.events d.events t.outcomes d.outcomes (clocked_plain coming.now s) (came_plain coming t.stack (reading coming.bytes) refl)
call_plain (Output now) s k = output_plain now s
call_plain (Add row) s k = absurd (cc)
call_plain (Withdraw n) s k = absurd (cc)

-- what a call did, whatever it does to the rows
pub record Steps (s : StackState) (d : Did) : Type 0 where
  pub most : d.stack.most ≡ s.most
  pub node : d.stack.node ≡ node_from most_ends s.rows s.node d.events
  pub told : d.outcomes ≡ node_outcomes_from most_ends s.rows s.node d.events

added_steps : (s : StackState) (adding : Adding) → Steps s (added s adding)
added_steps s (AddedAs n rows) = record { most = refl; node = refl; told = refl }
added_steps s refusal = record { most = refl; node = refl; told = refl }

withdrew_steps : (s : StackState) (rows : Option (List Row)) → Steps s (withdrew s rows)
withdrew_steps s None = record { most = refl; node = refl; told = refl }
withdrew_steps s (Some rows) = record { most = refl; node = refl; told = refl }

of_plain : (s : StackState) (d : Did) → IsPlainCall s d → Steps s d
of_plain s d p = record { most = p.most; node = p.node; told = p.told }

-- each call makes the plain events that it says
pub call_steps : (c : Call) (s : StackState) → Steps s (call c s)
unfolding call
call_steps (At pair a) s = of_plain s (call (At pair a) s) (call_plain (At pair a) s refl)
call_steps (Input coming) s = of_plain s (call (Input coming) s) (call_plain (Input coming) s refl)
call_steps (Output now) s = of_plain s (call (Output now) s) (call_plain (Output now) s refl)
call_steps (Add row) s = added_steps s (adding s.rows (row_of_new row))
call_steps (Withdraw n) s = withdrew_steps s (withdrawn s.rows n)
