-- What a line of a link file says of one event. Our own format. Its top is `link_event_of`.
use Rattle.std.specs.Prelude.{ℕ, nat_le, nat_lt, List, codes, Option, Some, None}
use Rattle.std.specs.Prelude.{Result, Ok, Err, if◌then◌else◌}
use Rattle.std.specs.Str.{bytes_eq}
use Rattle.book_lines.specs.declared.line_kind.LineKind.{LineKind}
use Rattle.book_lines.specs.declared.line_kind.LineKind.TheVariants.{Word, Range}
use Rattle.book_keys.specs.Columns.{direction_of}
use Rattle.book_keys.specs.Lifetimes.{greatest_time}
use Rattle.book_keys.specs.MasterKeys.{longest_master_key}
use Rattle.book_keys.specs.Rows.{row_limit, greatest_key_id}
use Rattle.book_lines.specs.Words.{Taken, word_in, word_as, nothing_in, choice_in, end_in}
use Rattle.book_lines.specs.Words.{algorithm_in, number_in, sized_hex_in, some_hex_in, byte_in}
use Rattle.book_base.specs.Results.{◌>>=◌}
use Rattle.book_pcap.specs.Packets.{longest_datagram}
use Rattle.book_link.specs.declared.event.Event.{Event}
use Rattle.book_link.specs.declared.event.Action.{Action}
use Rattle.book_link.specs.declared.event.Fixing.{Fixing}
use Rattle.book_link.specs.declared.event.Fixing.TheVariants.{Keep, Fix}
use Rattle.book_link.specs.declared.event.Event.TheVariants as event
use Rattle.book_link.specs.declared.event.Action.TheVariants as action

-- the greatest initial sequence number (RFC 9293, section 3.4.1)
abbrev pub greatest_isn : ℕ
greatest_isn = 0xffffffff

-- the most segments that a link makes (own)
abbrev pub most_segments : ℕ
most_segments = 20000

-- the most bytes that an event gives again and again, or takes (own)
abbrev pub most_at_once : ℕ
most_at_once = 65535

-- the furthest place of a byte that an event alters, from the TCP header on (own)
abbrev pub furthest_place : ℕ
furthest_place = 65535

-- an event of an end alone: `send END`, `resend END`, `close END`, `abort END` (own)
abbrev pub event_of_end : Action → List (List ℕ) → Result Event LineKind
event_of_end made ws = do
  e ← end_in ws
  none ← nothing_in e.rest
  Ok (event.At e.value made)

-- an event of an end and a number from low to high: `clock END SECONDS`, `open END ISN`, `listen
-- END ISN`, `deliver END N`, `take END COUNT`, `withdraw END ROW` (own)
abbrev pub event_of_number :
    (ℕ → Action) → (low high : ℕ) → List (List ℕ) → Result Event LineKind
event_of_number made low high ws = do
  e ← end_in ws
  n ← number_in low high e.rest
  none ← nothing_in n.rest
  Ok (event.At e.value (made n.value))

-- the event `start END ISN PEERISN` (own)
unfoldable pub start_of : List (List ℕ) → Result Event LineKind
start_of ws = do
  e ← end_in ws
  own ← number_in 0 greatest_isn e.rest
  peer ← number_in 0 greatest_isn own.rest
  none ← nothing_in peer.rest
  Ok (event.At e.value (action.Start own.value peer.value))

-- the event `give END HEX`, of at least one byte (own)
unfoldable pub give_of : List (List ℕ) → Result Event LineKind
give_of ws = do
  e ← end_in ws
  bytes ← some_hex_in e.rest
  none ← nothing_in bytes.rest
  Ok (event.At e.value (action.Give bytes.value))

-- the event `fill END COUNT BYTE` (own)
unfoldable pub fill_of : List (List ℕ) → Result Event LineKind
fill_of ws = do
  e ← end_in ws
  count ← number_in 0 most_at_once e.rest
  byte ← byte_in count.rest
  none ← nothing_in byte.rest
  Ok (event.At e.value (action.Fill count.value byte.value))

-- the event `inject END HEX`, of at least one byte and at most the longest datagram (own)
unfoldable pub inject_of : List (List ℕ) → Result Event LineKind
inject_of ws = do
  e ← end_in ws
  bytes ← sized_hex_in 1 longest_datagram e.rest
  none ← nothing_in bytes.rest
  Ok (event.At e.value (action.Inject bytes.value))

-- whether the checksum of an altered copy is kept or set, as a word says it (own)
unfoldable pub fixing_of : List ℕ → Option Fixing
fixing_of w =
    if bytes_eq w (codes "keep") then Some Keep
    else if bytes_eq w (codes "fix") then Some Fix
    else None

-- the event `alter END N PLACE MASK keep` or `fix` (own)
unfoldable pub alter_of : List (List ℕ) → Result Event LineKind
alter_of ws = do
  e ← end_in ws
  segment ← number_in 1 most_segments e.rest
  place ← number_in 0 furthest_place segment.rest
  mask ← byte_in place.rest
  fixing ← word_as fixing_of Word mask.rest
  none ← nothing_in fixing.rest
  Ok (event.At e.value (action.Alter segment.value place.value mask.value fixing.value))

-- the event `add END RECVID SENDID ALGORITHM HEX FLAG DIRECTION SENDFIRST SENDLAST ACCEPTFIRST
-- ACCEPTLAST`; no lifetime's last second is before its first (RFC 7210, section 2, and own)
unfoldable pub add_of : List (List ℕ) → Result Event LineKind
add_of ws = do
  e ← end_in ws
  recv_id ← number_in 0 greatest_key_id e.rest
  send_id ← number_in 0 greatest_key_id recv_id.rest
  algorithm ← algorithm_in send_id.rest
  master ← sized_hex_in 1 longest_master_key algorithm.rest
  apart ← choice_in (codes "no-options") (codes "options") master.rest
  direction ← word_as direction_of Word apart.rest
  send_first ← number_in 0 greatest_time direction.rest
  send_last ← number_in send_first.value greatest_time send_first.rest
  accept_first ← number_in 0 greatest_time send_last.rest
  accept_last ← number_in accept_first.value greatest_time accept_first.rest
  none ← nothing_in accept_last.rest
  Ok (event.At e.value (action.AddRow (record {
    recv_id = recv_id.value;
    send_id = send_id.value;
    algorithm = algorithm.value;
    master = master.value;
    with_options = apart.value;
    direction = direction.value;
    sending = record { first = send_first.value; last = send_last.value };
    accepting = record { first = accept_first.value; last = accept_last.value };
  })))

-- the event `dump N` (own)
unfoldable pub dump_of : List (List ℕ) → Result Event LineKind
dump_of ws = do
  segment ← number_in 1 most_segments ws
  none ← nothing_in segment.rest
  Ok (event.Dump segment.value)

-- the event that the first word of a line names, of the words after it (own)
unfoldable pub event_named : List ℕ → List (List ℕ) → Result Event LineKind
event_named name ws =
    if bytes_eq name (codes "clock") then event_of_number action.Clock 0 greatest_time ws
    else if bytes_eq name (codes "open") then event_of_number action.Connect 0 greatest_isn ws
    else if bytes_eq name (codes "listen") then event_of_number action.Listen 0 greatest_isn ws
    else if bytes_eq name (codes "start") then start_of ws
    else if bytes_eq name (codes "give") then give_of ws
    else if bytes_eq name (codes "fill") then fill_of ws
    else if bytes_eq name (codes "send") then event_of_end action.Send ws
    else if bytes_eq name (codes "resend") then event_of_end action.Resend ws
    else if bytes_eq name (codes "deliver") then event_of_number action.Deliver 1 most_segments ws
    else if bytes_eq name (codes "inject") then inject_of ws
    else if bytes_eq name (codes "alter") then alter_of ws
    else if bytes_eq name (codes "take") then event_of_number action.Take 0 most_at_once ws
    else if bytes_eq name (codes "close") then event_of_end action.Close ws
    else if bytes_eq name (codes "abort") then event_of_end action.Abort ws
    else if bytes_eq name (codes "add") then add_of ws
    else if bytes_eq name (codes "withdraw") then event_of_number action.Withdraw 1 row_limit ws
    else if bytes_eq name (codes "dump") then dump_of ws
    else Err Word

-- the event that the words of a line say (own)
unfoldable pub link_event_of : List (List ℕ) → Result Event LineKind
link_event_of ws = do
  name ← word_in ws
  event_named name.value name.rest
