-- Many connections at one node, each an end of its own. Our own format. Its tops are
-- `node_script_of` and `node_text`.
use Rattle.std.specs.Prelude.{ℕ, suc, ◌+◌, nat_lt, nat_le, Bool, not, ◌&&◌, List, [], ◌∷◌, ◌++◌}
use Rattle.std.specs.Prelude.{length, codes, decimal, Option, Some, None, Result, Ok, Err}
use Rattle.std.specs.Prelude.{if◌then◌else◌}
use Rattle.std.specs.Str.{bytes_eq}
use Rattle.book_base.specs.declared.address.Address.{Address}
use Rattle.book_base.specs.declared.address.Pair.{Pair}
use Rattle.book_lines.specs.declared.line_kind.LineKind.{LineKind}
use Rattle.book_lines.specs.declared.line_kind.LineKind.TheVariants as kind
use Rattle.book_base.specs.Hexadecimal.{hex_of}
use Rattle.book_segments.specs.Sockets.{same_socket, are_two_of_a_family}
use Rattle.book_segments.specs.Segments.{Reading, Read, Bad as Unread, reading, spell}
use Rattle.book_keys.specs.Lifetimes.{greatest_time}
use Rattle.book_keys.specs.Rows.{Row}
use Rattle.book_lines.specs.declared.text_fault.TextFault.{TextFault}
use Rattle.book_lines.specs.Lines.{Line, saying_lines}
use Rattle.book_lines.specs.Said.{at_number, if_few_lines}
use Rattle.book_lines.specs.Texts.{numbered_text}
use Rattle.book_lines.specs.Words.{Taken, word_in, literal_in, address_in, number_in, sized_hex_in}
use Rattle.book_lines.specs.Words.{some_hex_in, nothing_in}
use Rattle.book_base.specs.Results.{◌>>=◌}
use Rattle.book_endpoint.specs.declared.arrival.Arrival.{Arrival}
use Rattle.book_endpoint.specs.declared.arrival.Arrival.TheVariants.{Bad}
use Rattle.book_endpoint.specs.States.{EndState, connected, listening, started, Offers, offered}
use Rattle.book_endpoint.specs.States.{taking}
use Rattle.book_endpoint.specs.States.{take_out, at_end, close, abort, tick}
use Rattle.book_endpoint.specs.Arrivals.{arrive}
use Rattle.book_endpoint.specs.Emissions.{Emission, Emitted, Quiet, NoKey, Emits, emit, resend}
use Rattle.book_link.specs.Reports.{answer_texts, flags_text, number_text, hex_or_none, end_mark}
use Rattle.book_cmd_node.specs.declared.node.Act.{Act}
use Rattle.book_cmd_node.specs.declared.node.Act.TheVariants as act
use Rattle.book_cmd_node.specs.declared.node.NodeEvent.{NodeEvent}
use Rattle.book_cmd_node.specs.declared.node.NodeEvent.TheVariants as event
use Rattle.book_cmd_node.specs.declared.node.NodeScript.{NodeScript}
use Rattle.book_cmd_link.specs.LinkEvents.{greatest_isn, most_at_once}
use Rattle.book_cmd_link.specs.LinkFiles.{line_in, title_of, missing_in}
use Rattle.book_segments.specs.Segments.{pair_reached}
use Rattle.book_pcap.specs.Packets.{longest_datagram}
use Rattle.book_base.specs.Addresses.{greatest_port}

-- an end that a node holds, under the pair of its connection (own)
pub record Held : Type 0 where
  pub pair : Pair
  pub state : EndState

-- a node: its clock, and its ends; no pair is held twice (own)
pub record NodeState : Type 0 where
  pub clock : ℕ
  pub ends : List Held

-- what an event of a node answers (own)
pub data NodeOutcome : Type 0 where
  Performed InUse NodeFull NoConnection NoRoom ConnectionClosing : NodeOutcome
  Transmitted : (emission : Emission) → NodeOutcome
  NoUsableKey NothingToSend NothingToResend : NodeOutcome
  DatagramAnswered : (answer : Arrival) → NodeOutcome
  Delivered : (bytes : List ℕ) (end_shown : Bool) → NodeOutcome

-- the most ends that a node holds (own)
abbrev pub most_ends : ℕ
most_ends = 1024

-- two pairs have the same sockets (own)
abbrev pub same_pair : (one other : Pair) → Bool
same_pair one two = same_socket one.local two.local && same_socket one.remote two.remote

-- the end that a node holds for a pair (own)
abbrev pub held_end : Pair → List Held → Option EndState
held_end pair [] = None
held_end pair (h ∷ hs) = if same_pair h.pair pair then Some h.state else held_end pair hs

-- the ends with this one in the place of its pair's (own)
abbrev pub with_end : Pair → EndState → List Held → List Held
with_end pair s [] = []
with_end pair s (h ∷ hs) =
    if same_pair h.pair pair then record { pair = pair; state = s } ∷ hs else h ∷ with_end pair s hs

-- the ends without this pair's (own)
abbrev pub without_end : Pair → List Held → List Held
without_end pair [] = []
without_end pair (h ∷ hs) = if same_pair h.pair pair then hs else h ∷ without_end pair hs

-- all ends of a node when its clock is set: each of them ticks (own)
abbrev pub ends_ticked : ℕ → List Held → List Held
ends_ticked now [] = []
ends_ticked now (h ∷ hs) = record { pair = h.pair; state = tick now h.state } ∷ ends_ticked now hs

-- the state after a call of an end, and its answer (own)
pub record Called : Type 0 where
  pub state : EndState
  pub outcome : NodeOutcome

-- a state with the answer of a call (own)
abbrev pub called : EndState → NodeOutcome → Called
called s outcome = record { state = s; outcome = outcome }

-- what comes of a call that makes a segment, or none: then the answer is the word for nothing to
-- send, or that no key may be used (own)
abbrev pub made_called : EndState → NodeOutcome → Emitted → Called
made_called s no_segment Quiet = called s no_segment
made_called s no_segment NoKey = called s NoUsableKey
made_called s no_segment (Emits out) = called out.state (Transmitted out)

-- the node after an event, and the event's answer (own)
pub record NodeStep : Type 0 where
  pub node : NodeState
  pub outcome : NodeOutcome

-- a node that stays as it is, with an answer (own)
abbrev pub stays : NodeState → NodeOutcome → NodeStep
stays n outcome = record { node = n; outcome = outcome }

-- a node after a call of the end of a pair (own)
abbrev pub after_call : NodeState → Pair → Called → NodeStep
after_call n pair c = record {
  node = record n { ends = with_end pair c.state n.ends };
  outcome = c.outcome;
}

-- bytes are taken of an end, and whether its stream has ended is shown (own)
abbrev pub take_called : ℕ → EndState → Called
take_called count s =
    let t = take_out count s in
    called t (Delivered (taking count s) (at_end t))

-- what an end that is offered a piece may answer (own)
abbrev pub node_offers : Offers NodeOutcome
node_offers = record { closed = ConnectionClosing; full = NoRoom; done = Performed }

-- what each act on a pair does whose end is held, and what it answers (RFC 9293, section 3.10, and
-- own)
abbrev pub on_held : List Row → NodeState → Pair → EndState → Act → NodeStep
on_held rows n pair s (act.Open isn) = after_call n pair (called s InUse)
on_held rows n pair s (act.Listen isn) = after_call n pair (called s InUse)
on_held rows n pair s (act.Start isn peer) = after_call n pair (called s InUse)
on_held rows n pair s (act.Give piece) =
    after_call n pair (offered called node_offers piece s)
on_held rows n pair s (act.Take count) = after_call n pair (take_called count s)
on_held rows n pair s act.Send =
    after_call n pair (made_called s NothingToSend (emit rows pair n.clock s))
on_held rows n pair s act.Resend =
    after_call n pair (made_called s NothingToResend (resend rows pair n.clock s))
on_held rows n pair s act.Close = after_call n pair (called (close s) Performed)
on_held rows n pair s act.Abort = after_call n pair (called (abort s) Performed)
on_held rows n pair s act.Remove = record {
  node = record n { ends = without_end pair n.ends };
  outcome = Performed;
}

-- a new end of a node, where there is room for it (own)
abbrev pub new_end : ℕ → NodeState → Pair → EndState → NodeStep
new_end most n pair s =
    if nat_le most (length n.ends) then stays n NodeFull
    else record {
      node = record n { ends = n.ends ++ record { pair = pair; state = s } ∷ [] };
      outcome = Performed;
    }

-- what each act on a pair does whose end isn't held, and what it answers (own)
abbrev pub on_other : ℕ → NodeState → Pair → Act → NodeStep
on_other most n pair (act.Open isn) = new_end most n pair (connected pair isn)
on_other most n pair (act.Listen isn) = new_end most n pair (listening pair isn)
on_other most n pair (act.Start isn peer) = new_end most n pair (started pair isn peer)
on_other most n pair (act.Give piece) = stays n NoConnection
on_other most n pair (act.Take count) = stays n NoConnection
on_other most n pair act.Send = stays n NoConnection
on_other most n pair act.Resend = stays n NoConnection
on_other most n pair act.Close = stays n NoConnection
on_other most n pair act.Abort = stays n NoConnection
on_other most n pair act.Remove = stays n NoConnection

-- an act on a pair (own)
pub record PairAct : Type 0 where
  pub pair : Pair
  pub act : Act

-- an act on a pair, whose end is held or isn't (own)
abbrev pub on_pair : ℕ → List Row → NodeState → PairAct → Option EndState → NodeStep
on_pair most rows n call None = on_other most n call.pair call.act
on_pair most rows n call (Some s) = on_held rows n call.pair s call.act

-- a datagram arrives at the end of a pair, where one is held (RFC 9293, section 3.10.7, and own)
abbrev pub arrived_at : List Row → NodeState → Pair → Reading → Option EndState → NodeStep
arrived_at rows n pair r None = stays n NoConnection
arrived_at rows n pair r (Some s) =
    let a = arrive rows pair n.clock s r in
    after_call n pair (called a.state (DatagramAnswered a.answer))

-- a datagram arrives at a node: at the end of its pair (own)
abbrev pub injected : List Row → NodeState → Reading → NodeStep
injected rows n (Unread fault) = stays n (DatagramAnswered (Bad fault))
injected rows n (Read d) =
    arrived_at rows n (pair_reached d) (Read d) (held_end (pair_reached d) n.ends)

-- the node after an event, and the answer; at most so many ends are held (own)
abbrev pub node_step : ℕ → List Row → NodeState → NodeEvent → NodeStep
node_step most rows n (event.Clock seconds) = record {
  node = record { clock = seconds; ends = ends_ticked seconds n.ends };
  outcome = Performed;
}
node_step most rows n (event.Inject bytes) = injected rows n (reading bytes)
node_step most rows n (event.On pair a) =
    on_pair most rows n (record { pair = pair; act = a }) (held_end pair n.ends)

-- a node as it begins: the clock 0, and no end (own)
abbrev pub no_ends : NodeState
no_ends = record { clock = 0; ends = [] }

-- the node after events that begin at this one (own)
abbrev pub node_from : ℕ → List Row → NodeState → List NodeEvent → NodeState
node_from most rows n [] = n
node_from most rows n (e ∷ es) = node_from most rows (node_step most rows n e).node es

-- the answers to events that begin at this node (own)
abbrev pub node_outcomes_from : ℕ → List Row → NodeState → List NodeEvent → List NodeOutcome
node_outcomes_from most rows n [] = []
node_outcomes_from most rows n (e ∷ es) =
    let s = node_step most rows n e in
    s.outcome ∷ node_outcomes_from most rows s.node es

-- the answers to events that begin at a node without ends (own)
unfoldable pub outcomes : List Row → List NodeEvent → List NodeOutcome
outcomes rows events = node_outcomes_from most_ends rows no_ends events

-- the words for a segment that an end of a node made (own)
abbrev pub node_sent_texts : Emission → List (List ℕ)
node_sent_texts e =
    codes "sent" ∷ flags_text e.flags
    ∷ codes "seq" ∷ decimal e.number ∷ codes "ack" ∷ number_text e.acknowledged
    ∷ codes "len" ∷ decimal (length e.segment.payload)
    ∷ codes "key" ∷ decimal e.sending.key_id ∷ codes "next" ∷ decimal e.sending.rnext_key_id
    ∷ codes "datagram" ∷ hex_of (spell e.segment) ∷ []

-- the words for an answer of a node (own)
abbrev pub node_texts : NodeOutcome → List (List ℕ)
node_texts Performed = codes "ok" ∷ []
node_texts InUse = codes "in-use" ∷ []
node_texts NodeFull = codes "node-full" ∷ []
node_texts NoConnection = codes "no-connection" ∷ []
node_texts NoRoom = codes "full" ∷ []
node_texts ConnectionClosing = codes "closed" ∷ []
node_texts (Transmitted e) = node_sent_texts e
node_texts NoUsableKey = codes "no-key" ∷ []
node_texts NothingToSend = codes "idle" ∷ []
node_texts NothingToResend = codes "nothing" ∷ []
node_texts (DatagramAnswered answer) = answer_texts answer
node_texts (Delivered bytes shown) = codes "took" ∷ hex_or_none bytes ∷ end_mark shown

-- a line for each answer of a node, the first one having this number (own)
abbrev pub outcome_lines : ℕ → List NodeOutcome → List ℕ
outcome_lines n [] = []
outcome_lines n (o ∷ os) = numbered_text n (node_texts o) ++ outcome_lines (suc n) os

-- the text of a node's run (own)
unfoldable pub node_text : List Row → List NodeEvent → List ℕ
node_text rows events = outcome_lines 1 (outcomes rows events)

-- the next words as a pair, `LOCALPORT ADDRESS REMOTEPORT`, seen from the node with this address
-- (own)
abbrev pub pair_in : Address → List (List ℕ) → Result (Taken Pair) LineKind
pair_in own ws = do
  local ← number_in 0 greatest_port ws
  address ← address_in local.rest
  far ← (if are_two_of_a_family own address.value then Ok address.value else Err kind.Range)
  port ← number_in 0 greatest_port address.rest
  Ok (record {
    value = record {
      local = record { address = own; port = local.value };
      remote = record { address = far; port = port.value };
    };
    rest = port.rest;
  })

-- an act on a connection, with no further word (own)
abbrev pub act_alone : Act → Address → List (List ℕ) → Result NodeEvent LineKind
act_alone made own ws = do
  pair ← pair_in own ws
  none ← nothing_in pair.rest
  Ok (event.On pair.value made)

-- an act on a connection with a number up to a greatest one (own)
abbrev pub act_number : (ℕ → Act) → ℕ → Address → List (List ℕ) → Result NodeEvent LineKind
act_number made high own ws = do
  pair ← pair_in own ws
  n ← number_in 0 high pair.rest
  none ← nothing_in n.rest
  Ok (event.On pair.value (made n.value))

-- the act `start` on a connection, with two initial sequence numbers (own)
abbrev pub act_start : Address → List (List ℕ) → Result NodeEvent LineKind
act_start own ws = do
  pair ← pair_in own ws
  isn ← number_in 0 greatest_isn pair.rest
  peer ← number_in 0 greatest_isn isn.rest
  none ← nothing_in peer.rest
  Ok (event.On pair.value (act.Start isn.value peer.value))

-- the act `give` on a connection, with at least one byte (own)
abbrev pub act_give : Address → List (List ℕ) → Result NodeEvent LineKind
act_give own ws = do
  pair ← pair_in own ws
  bytes ← some_hex_in pair.rest
  none ← nothing_in bytes.rest
  Ok (event.On pair.value (act.Give bytes.value))

-- the event `clock SECONDS` (own)
abbrev pub clock_of : List (List ℕ) → Result NodeEvent LineKind
clock_of ws = do
  seconds ← number_in 0 greatest_time ws
  none ← nothing_in seconds.rest
  Ok (event.Clock seconds.value)

-- the event `inject HEX`, of at least one byte and at most the longest datagram (own)
abbrev pub node_inject_of : List (List ℕ) → Result NodeEvent LineKind
node_inject_of ws = do
  bytes ← sized_hex_in 1 longest_datagram ws
  none ← nothing_in bytes.rest
  Ok (event.Inject bytes.value)

-- the event that the first word of a line names, of the words after it (own)
unfoldable pub node_event_named : Address → List ℕ → List (List ℕ) → Result NodeEvent LineKind
node_event_named own name ws =
    if bytes_eq name (codes "clock") then clock_of ws
    else if bytes_eq name (codes "inject") then node_inject_of ws
    else if bytes_eq name (codes "open") then act_number act.Open greatest_isn own ws
    else if bytes_eq name (codes "listen") then act_number act.Listen greatest_isn own ws
    else if bytes_eq name (codes "start") then act_start own ws
    else if bytes_eq name (codes "give") then act_give own ws
    else if bytes_eq name (codes "take") then act_number act.Take most_at_once own ws
    else if bytes_eq name (codes "send") then act_alone act.Send own ws
    else if bytes_eq name (codes "resend") then act_alone act.Resend own ws
    else if bytes_eq name (codes "close") then act_alone act.Close own ws
    else if bytes_eq name (codes "abort") then act_alone act.Abort own ws
    else if bytes_eq name (codes "remove") then act_alone act.Remove own ws
    else Err kind.Word

-- the event that the words of a line say (own)
unfoldable pub node_event_of : Address → List (List ℕ) → Result NodeEvent LineKind
node_event_of own ws = do
  name ← word_in ws
  node_event_named own name.value name.rest

-- the events that lines say, or the first faulty line (own)
unfoldable pub node_events_of : Address → List Line → Result (List NodeEvent) TextFault
node_events_of own [] = Ok []
node_events_of own (l ∷ ls) = do
  e ← at_number l.number (node_event_of own l.words)
  others ← node_events_of own ls
  Ok (e ∷ others)

-- the line `node ADDRESS` (own)
abbrev pub own_address_of : List (List ℕ) → Result Address LineKind
own_address_of ws = do
  name ← literal_in (codes "node") ws
  address ← address_in name.rest
  none ← nothing_in address.rest
  Ok address.value

-- the script that the lines of a node's file make (own)
unfoldable pub node_script_in : ℕ → List Line → Result NodeScript TextFault
node_script_in missing ls = do
  title ← line_in missing kind.Header (title_of (codes "aotcp-node")) ls
  address ← line_in missing kind.Header own_address_of title.rest
  events ← node_events_of address.value address.rest
  Ok (record { address = address.value; events = events })

-- the script of a node's file, or its first fault (own)
unfoldable pub node_script_of : List ℕ → Result NodeScript TextFault
node_script_of text = if_few_lines text (node_script_in (missing_in text) (saying_lines text))
