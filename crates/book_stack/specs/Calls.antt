-- The calls of a stack: what each answers and leaves, and the plain events that it makes (own).
use Rattle.std.specs.Prelude.{ℕ, nat_le, Bool, true, false, List, [], ◌∷◌, ◌++◌, length, Option}
use Rattle.std.specs.Prelude.{Some, None, Ok, Err, if◌then◌else◌}
use Rattle.book_base.specs.declared.address.Pair.{Pair}
use Rattle.book_segments.specs.Segments.{Segment, Reading, Read, Bad as Unread, reading}
use Rattle.book_keys.specs.declared.new_row.NewRow.{NewRow}
use Rattle.book_keys.specs.Tables.{Adding, AddedAs, adding, row_of_new, withdrawn}
use Rattle.book_keys.specs.Rows.{Row}
use Rattle.book_endpoint.specs.declared.arrival.Arrival.{Arrival}
use Rattle.book_endpoint.specs.declared.arrival.Arrival.TheVariants.{Bad}
use Rattle.book_endpoint.specs.declared.refusal.Refusal.{Refusal}
use Rattle.book_endpoint.specs.States.{EndState}
use Rattle.book_endpoint.specs.Arrivals as book
use Rattle.book_endpoint.specs.Emissions.{Emission}
use Rattle.book_endpoint.specs.Verdicts.{Judgement}
use Rattle.book_cmd_node.specs.declared.node.Act.{Act}
use Rattle.book_cmd_node.specs.declared.node.Act.TheVariants as act
use Rattle.book_cmd_node.specs.declared.node.NodeEvent.{NodeEvent}
use Rattle.book_cmd_node.specs.declared.node.NodeEvent.TheVariants as event
use Rattle.book_cmd_node.specs.NodeRuns.{NodeOutcome, DatagramAnswered, NoRoom, ConnectionClosing}
use Rattle.book_cmd_node.specs.NodeRuns.{InUse, NodeFull, NoConnection, NodeStep, called, held_end}
use Rattle.book_cmd_node.specs.NodeRuns.{most_ends, node_step}
use Rattle.book_segments.specs.Segments.{pair_reached}
use Rattle.book_stack.specs.declared.front.Change.{Change}
use Rattle.book_stack.specs.Watches.{arrived, is_heard, moves_on}
use Rattle.book_stack.specs.Stacks.{StackState, asking_judged, asks, forgotten, touched, watched}
use Rattle.book_stack.specs.Turns.{Turn, called_at, change_by, clocked, output_at}

-- bytes that come at a time in milliseconds (own)
pub record Incoming : Type 0 where
  pub now : ℕ
  pub bytes : List ℕ

-- what is called at a stack; of what happens at a pair its user calls all but Send and Resend (own)
pub data Call : Type 0 where
  At : (pair : Pair) (what : Act) → Call
  Input : (coming : Incoming) → Call
  Output : (now : ℕ) → Call
  Add : (row : NewRow) → Call
  Withdraw : (number : ℕ) → Call

-- what a call answers: as a node does; as a node does to a segment that moved its connection on; a
-- SYN that passed the check asks for a connection of this pair; one was refused by the check, and
-- no connection is there; the next datagram or none; what came of adding a row; whether there was
-- the row to withdraw (own)
pub data CallAnswer : Type 0 where
  Told : (outcome : NodeOutcome) → CallAnswer
  Moves : (outcome : NodeOutcome) → CallAnswer
  Knocks : (pair : Pair) → CallAnswer
  Refuses : (why : Refusal) → CallAnswer
  Hands : (emission : Emission) → CallAnswer
  Rests : CallAnswer
  Adds : (adding : Adding) → CallAnswer
  Withdraws NoSuchRow : CallAnswer

-- what a call leaves, the plain events that it made with their answers, and what it answers (own)
pub record Did : Type 0 where
  pub stack : StackState
  pub events : List NodeEvent
  pub outcomes : List NodeOutcome
  pub answer : CallAnswer

-- a call that makes no plain event (own)
abbrev pub unasked : StackState → CallAnswer → Did
unasked s answer = record { stack = s; events = []; outcomes = []; answer = answer }

-- a call that makes one plain event and answers as it is answered (own)
abbrev pub asking : StackState → NodeEvent → NodeOutcome → Did
asking s e o = record { stack = s; events = e ∷ []; outcomes = o ∷ []; answer = Told o }

-- a plain answer, by whether the segment moved its connection on (own)
abbrev pub answer_moving : Bool → NodeOutcome → CallAnswer
answer_moving true o = Moves o
answer_moving false o = Told o

-- the stack once its node made a plain step (own)
abbrev pub stepped : StackState → NodeStep → StackState
stepped s step = record s { node = step.node }

-- a plain event of a node of a stack (own)
abbrev pub plain_step : StackState → NodeEvent → NodeStep
plain_step s e = node_step most_ends s.rows s.node e

-- what is kept after a call at a pair that is held: nothing where it was dropped; after a refusal
-- as before; else its end may have something to send (own)
abbrev pub kept : Pair → Act → NodeOutcome → StackState → StackState
kept pair act.Remove o s = forgotten pair s
kept pair a InUse s = s
kept pair a NoRoom s = s
kept pair a ConnectionClosing s = s
kept pair a o s = touched pair s

-- a call at a pair that is held (own)
abbrev pub at_held : Pair → Act → StackState → Did
at_held pair a s = let step = plain_step s (event.On pair a) in
    asking (kept pair a step.outcome (stepped s step)) (event.On pair a) step.outcome

-- the call makes a new end (own)
abbrev pub makes_an_end : Act → Bool
makes_an_end (act.Open isn) = true
makes_an_end (act.Listen isn) = true
makes_an_end (act.Start isn peer) = true
makes_an_end _ = false

-- a new end, where fewer are held than the stack holds at most (own)
abbrev pub begun : Pair → Act → StackState → Did
begun pair a s = if nat_le s.most (length s.node.ends) then unasked s (Told NodeFull)
    else (let step = plain_step s (event.On pair a) in
    asking (touched pair (stepped s step)) (event.On pair a) step.outcome)

-- a call at a pair that isn't held (own)
abbrev pub at_other : Pair → Act → StackState → Did
at_other pair a s =
    if makes_an_end a then begun pair a s else asking s (event.On pair a) NoConnection

-- a call at a pair (own)
abbrev pub at_pair : Pair → Act → StackState → Option EndState → Did
at_pair pair a s None = at_other pair a s
at_pair pair a s (Some e) = at_held pair a s

-- the timer and the line after an end heard a segment: as before where the check refused it (own)
abbrev pub after_segment_heard : ℕ → Pair → Arrival → Change → StackState → StackState
after_segment_heard now pair answer c s = if is_heard answer
    then touched pair (watched pair (arrived now c (s.watches pair)) s) else s

-- the end of a pair hears a segment, with what it answers (RFC 9293, section 3.10.7)
abbrev pub heard_end : Incoming → Pair → EndState → book.Arrived → StackState → Did
heard_end coming pair e a s =
    let c = called a.state (DatagramAnswered a.answer) in record {
      stack =
          after_segment_heard coming.now pair a.answer (change_by e c) (called_at pair c s);
      events = event.Inject coming.bytes ∷ [];
      outcomes = DatagramAnswered a.answer ∷ [];
      answer = answer_moving (moves_on (change_by e c)) (DatagramAnswered a.answer);
    }

-- a segment comes to the end of a pair, where it is held (own)
abbrev pub heard_pair : Incoming → Pair → Segment → StackState → Option EndState → Did
heard_pair coming pair d s None = asking s (event.Inject coming.bytes) NoConnection
heard_pair coming pair d s (Some e) =
    heard_end coming pair e (book.arrive s.rows pair s.node.clock e (Read d)) s

-- a segment asks for a connection: where it passes the check it knocks; else it is refused, or it
-- comes to the end of its pair, whose connection is over (RFC 5925, section 7.5)
abbrev pub asked_for : Incoming → Segment → StackState → Option EndState → Judgement → Did
asked_for coming d s held (Ok p) = unasked s (Knocks (pair_reached d))
asked_for coming d s None (Err why) = unasked s (Refuses why)
asked_for coming d s (Some e) (Err why) = heard_pair coming (pair_reached d) d s (Some e)

-- a segment comes: it asks for a connection, or it comes to the end of its pair (own)
abbrev pub met : Incoming → Segment → StackState → Option EndState → Did
met coming d s held = if asks d held then asked_for coming d s held (asking_judged s d)
    else heard_pair coming (pair_reached d) d s held

-- bytes come (own)
abbrev pub bytes_received : Incoming → Reading → StackState → Did
bytes_received coming (Unread fault) s =
    asking s (event.Inject coming.bytes) (DatagramAnswered (Bad fault))
bytes_received coming (Read d) s = met coming d s (held_end (pair_reached d) s.node.ends)

-- the call after a turn (own)
abbrev pub after_turn : Turn → (StackState → Did) → Did
after_turn t next = let d = next t.stack in record {
  stack = d.stack;
  events = t.events ++ d.events;
  outcomes = t.outcomes ++ d.outcomes;
  answer = d.answer;
}

-- a datagram is handed out, or none is due (own)
abbrev pub handed_out : Option Emission → CallAnswer
handed_out None = Rests
handed_out (Some x) = Hands x

-- the answer of a turn (own)
abbrev pub turn_ended : Turn → Did
turn_ended t = record {
  stack = t.stack;
  events = t.events;
  outcomes = t.outcomes;
  answer = handed_out t.hands;
}

-- a row is added (own)
abbrev pub added : StackState → Adding → Did
added s (AddedAs n rows) = unasked (record s { rows = rows }) (Adds (AddedAs n rows))
added s refusal = unasked s (Adds refusal)

-- a row is withdrawn (own)
abbrev pub withdrew : StackState → Option (List Row) → Did
withdrew s None = unasked s NoSuchRow
withdrew s (Some rows) = unasked (record s { rows = rows }) Withdraws

-- what a call does (own)
unfoldable pub call : Call → StackState → Did
call (At pair a) s = at_pair pair a s (held_end pair s.node.ends)
call (Input coming) s =
    after_turn (clocked coming.now s) (bytes_received coming (reading coming.bytes))
call (Output now) s = turn_ended (output_at now s)
call (Add row) s = added s (adding s.rows (row_of_new row))
call (Withdraw n) s = withdrew s (withdrawn s.rows n)
