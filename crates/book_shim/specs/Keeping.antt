-- What is kept of a pair of sockets. The file's top: `connection_begun`.
use Rattle.std.specs.Prelude.{ℕ, ◌+◌, ◌-◌, ◌%◌, ◌==◌, Bool, true, false, not, ◌&&◌, List}
use Rattle.std.specs.Prelude.{Option, Some, None, option_map, Result, Ok, Err}
use Rattle.std.specs.List.{list_any}
use Rattle.book_base.specs.declared.address.Pair.{Pair}
use Rattle.book_segments.specs.Bytes.{ring}
use Rattle.book_segments.specs.Segments.{Segment, has, SYN, ACK}
use Rattle.book_keys.specs.Rows.{Row, matches}
use Rattle.book_shim.specs.declared.kept.Isns.{Isns}
use Rattle.book_shim.specs.declared.kept.Kept.{Kept}

-- the rows of the key table, the time, and the MTU of the device over which datagrams come (own)
pub record Setting : Type 0 where
  pub rows : List Row
  pub now : ℕ
  pub mtu : ℕ

-- nothing was seen of the pair (own)
abbrev pub fresh : Kept
fresh = record {
  opening = None;
  given_up = None;
  late = None;
  isns = None;
  settled = false;
  sent = 0;
  heard = 0;
  current = None;
}

-- there is a number, and it is this one (own)
abbrev pub is_the_number : Option ℕ → ℕ → Bool
is_the_number None n = false
is_the_number (Some m) n = m == n

-- both initial sequence numbers of the connection in use are these (own)
abbrev pub are_isns : Option Isns → (own peer : ℕ) → Bool
are_isns None own peer = false
are_isns (Some c) own peer = (c.own == own) && (c.peer == peer)

-- the initial sequence number of the own side of the connection in use (RFC 5925, section 5.2)
abbrev pub own_isn : Kept → Option ℕ
own_isn g = option_map (λ c. c.own) g.isns

-- the initial sequence number of the peer in the connection in use (RFC 5925, section 5.2)
abbrev pub peer_isn : Kept → Option ℕ
peer_isn g = option_map (λ c. c.peer) g.isns

-- a SYN without ACK (RFC 9293, section 3.5)
abbrev pub is_opening_syn : Segment → Bool
is_opening_syn d = has SYN d && not (has ACK d)

-- the initial sequence number that a SYN with ACK answers (RFC 9293, section 3.5)
abbrev pub answered_isn : Segment → ℕ
answered_isn d = (d.acknowledgement + ring - 1) % ring

-- a connection begins with these numbers: those of both SYNs are used (RFC 9293, section 3.4)
abbrev pub connection_begun : Kept → (own peer : ℕ) → Kept
connection_begun g own peer = record fresh {
  isns = Some (record { own = own; peer = peer });
  sent = own + 1;
  heard = peer + 1;
  current = g.current;
}

-- some row is for the pair, at whatever time (RFC 5925, section 7.4)
abbrev pub is_keyed : List Row → Pair → Bool
is_keyed rows pair = list_any (λ r. matches r pair) rows

-- what is asked holds, or this is the refusal (own)
abbrev pub demand : {E : Type 0} → Bool → E → Result (Unit {0}) E
demand true why = Ok tt
demand false why = Err why
