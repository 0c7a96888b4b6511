-- What is known of a connection: both ways of it (own).
use Rattle.std.specs.Prelude.{◌≡◌, ◌≤◌, ◌+◌, ◌%◌, ◌/◌, ◌^◌, ℕ, max, Bool, true, false, List, [], length, Option, Some, None, Ok, Err}
use Rattle.std.specs.List.{find}
use Rattle.book_base.specs.declared.address.Socket.{Socket}
use Rattle.book_base.specs.Orders.{is_low}
use Rattle.book_segments.specs.Bytes.{ring}
use Rattle.book_segments.specs.Options.{find_ao}
use Rattle.book_segments.specs.Segments.{Segment, has, segment_length, SYN}
use Rattle.book_keys.specs.Rows.{Row, Table, has_address}
use Rattle.book_endpoint.specs.Verdicts.{Judgement, judge}
use Rattle.book_cmd_check.specs.Captures.{Connection, KnownSide}
use Rattle.tcp_segment.specs.declared.counter.Counter.{Counter}
use Rattle.tcp_segment.specs.Counter.{number}
use Rattle.ao_kdf.specs.declared.way.Way.TheVariants.{Inbound}
use Rattle.ao_kdf.specs.Cache.{empty}
use Rattle.ao_check.specs.Bonds.{Fits, Counted}
use Rattle.ao_check.specs.Verdicts.{Verdict, Tells, is_judged, judging}
use Rattle.capture_check.specs.declared.flow.Flow.{Flow}
use Rattle.capture_check.specs.declared.flows.Flows.{Flows}

-- the rows of a table, if there is one
abbrev pub rows_in : Option Table → List Row
rows_in None = []
rows_in (Some t) = t.rows

-- the rows of the node that has the address of a socket; none where no node has it
abbrev pub rows_of : List Table → Socket → List Row
rows_of tables s = rows_in (find (has_address s.address) tables)

-- the counter that stands at a number (RFC 5925, section 6.2)
abbrev pub counter_of : ℕ → Counter
counter_of n = record { low = n % ring; extension = n / ring }

-- the way from one socket to another as it begins: the number behind the SYN is expected (RFC 9293, section 3.5), and no key is kept
abbrev pub new_flow : List Table → Socket → Socket → ℕ → ℕ → Flow
new_flow tables from to isn other =
    record {
      isn = isn;
      expected = counter_of (isn + 1);
      receiver = record { pair = record { local = to; remote = from }; own = other; peer = Some isn; current = None; keys = empty (length (rows_of tables to)) };
    }

-- the way from one socket to another: the receiver's association has these sockets and both initial sequence numbers, and fits its node's rows
pub record IsFlow (tables : List Table) (from to : Socket) (f other : Flow) : Type 0 where
  pub pair : f.receiver.pair ≡ record { local = to; remote = from }
  pub own : f.receiver.own ≡ other.isn
  pub peer : f.receiver.peer ≡ Some f.isn
  pub expected : number f.expected ≤ 2 ^ 63
  pub fits : Fits (rows_of tables to) f.receiver

-- the way from the lower socket, or from the higher one
abbrev pub way : Bool → Flows → Flow
way true h = h.low
way false h = h.high

-- the way from one socket to another
abbrev pub flow_from : Socket → Socket → Flows → Flow
flow_from from to h = way (is_low from to) h

-- both ways, of which the first is from the lower socket, or from the higher one
abbrev pub both : Bool → Flow → Flow → Flows
both true one two = record { low = one; high = two }
both false one two = record { low = two; high = one }

-- both ways between two sockets as they begin with these initial sequence numbers
abbrev pub new_flows : List Table → Socket → Socket → ℕ → ℕ → Flows
new_flows tables a b isn other = both (is_low a b) (new_flow tables a b isn other) (new_flow tables b a other isn)

-- the side of a connection that sends this way
abbrev pub side_of : Socket → Flow → KnownSide
side_of socket f = record { socket = socket; isn = f.isn; expected = number f.expected }

-- the connection as the first socket sees it
abbrev pub shown : Socket → Socket → Flows → Connection
shown a b h = record { one = side_of a (flow_from a b h); two = side_of b (flow_from b a h) }

-- the number by which a segment is judged: a given one, or else the one that is expected of the sender
abbrev pub expected_by : Option ℕ → Flow → ℕ
expected_by None f = number f.expected
expected_by (Some n) f = n

-- the verdict on a segment that goes this way, where this number is expected
abbrev pub judged_on : List Row → ℕ → Segment → Flow → ℕ → Judgement
judged_on rows now d f n = judge rows f.receiver.pair (record { own_isn = f.receiver.own; peer_isn = f.receiver.peer; expected = Some n }) now d

-- what is expected of the sender after a segment that got this verdict by number n: where it passed, at least n and the number behind it; else x, as before
abbrev pub expected_after : ℕ → ℕ → Segment → Judgement → ℕ
expected_after x n d (Err why) = x
expected_after x n d (Ok p) = max n (p.number + segment_length d)

-- one segment without SYN is heard, by a given number or by the one that is expected: its verdict, what is expected then, and the keys that are kept
pub record FlowHears (rows : List Row) (now : ℕ) (given : Option ℕ) (d : Segment) (before after : Flow) (verdict : Verdict) (old new : ℕ) : Type 0 where
  pub tells : Tells rows before.receiver.pair d verdict (judged_on rows now d before (expected_by given before))
  pub isn : after.isn ≡ before.isn
  pub expected : number after.expected ≡ expected_after (number before.expected) (expected_by given before) d (judged_on rows now d before (expected_by given before))
  pub small : number after.expected ≤ 2 ^ 63
  pub receiver : after.receiver ≡ record before.receiver { keys = after.receiver.keys }
  pub fits : Fits rows after.receiver
  pub counted : Counted before.receiver.keys after.receiver.keys (judging rows before.receiver.pair now (find_ao d.area)) (is_judged verdict) Inbound (has SYN d) old new
