-- Connections whose handshake passed before the first stored datagram, by their initial sequence
-- numbers (RFC 5925, section 5.2, and own). Its top is `given_after`.
use Rattle.std.specs.Prelude.{◌≡◌, ◌+◌, nat_le, nat_lt, Bool, true, ◌||◌, List, [], ◌∷◌, length}
use Rattle.std.specs.Prelude.{Option, Some, None, option_map, is_some, if◌then◌else◌}
use Rattle.std.specs.List.{find}
use Rattle.book_segments.specs.Segments.{Segment, has, SYN, ACK}
use Rattle.book_segments.specs.Sockets.{same_socket}
use Rattle.book_cmd_check.specs.declared.given.GivenIsns.{GivenIsns}
use Rattle.book_cmd_check.specs.Captures.{Connection, acknowledged_isn, joins, most_connections}
use Rattle.book_cmd_check.specs.Captures.{same_isns, seen_from, with_connection}

-- the connection that a handshake with these initial sequence numbers fixes: of each side the
-- number behind its SYN is expected (RFC 9293, section 3.5)
abbrev pub given_connection : GivenIsns → Connection
given_connection g = record {
  one = record { socket = g.one; isn = g.one_isn; expected = g.one_isn + 1 };
  two = record { socket = g.other; isn = g.other_isn; expected = g.other_isn + 1 };
}

-- the connection that is held between the sockets, seen from the one (own)
abbrev pub held_between : GivenIsns → List Connection → Option Connection
held_between g held = option_map (seen_from g.one) (find (joins g.one g.other) held)

-- the connections once this one began, by what was held between its sockets: the same where it has
-- these initial sequence numbers already, and where too many others are held (own)
abbrev pub with_begun : Connection → Option Connection → List Connection → List Connection
with_begun c (Some k) held = if same_isns k c then held else with_connection c held
with_begun c None held =
    if nat_le most_connections (length held) then held else with_connection c held

-- the connections after a handshake with these initial sequence numbers; no handshake is between a
-- socket and itself (RFC 9293, section 3.5, and own)
abbrev pub and_given : GivenIsns → List Connection → List Connection
and_given g held =
    if same_socket g.one g.other then held
    else with_begun (given_connection g) (held_between g held) held

-- the connections after such handshakes, one after another (own)
abbrev pub given_after : List Connection → List GivenIsns → List Connection
given_after held [] = held
given_after held (g ∷ gs) = given_after (and_given g held) gs

-- there is room for the connection: one is held between its sockets, or not too many are (own)
abbrev pub has_room : GivenIsns → List Connection → Bool
has_room g held = same_socket g.one g.other
    || (is_some (held_between g held) || nat_lt (length held) most_connections)

-- the initial sequence numbers that a SYN with ACK tells: its own sequence number, and that which
-- it acknowledges (RFC 9293, section 3.5)
abbrev pub told_by : Segment → GivenIsns
told_by d = record {
  one = d.source;
  one_isn = d.sequence;
  other = d.destination;
  other_isn = acknowledged_isn d;
}

-- a segment ends a handshake with these initial sequence numbers: a SYN with ACK, which tells its
-- sender's, and acknowledges the other one (RFC 9293, section 3.5)
pub record EndsHandshake (d : Segment) (g : GivenIsns) : Type 0 where
  pub syn : has SYN d ≡ true
  pub ack : has ACK d ≡ true
  pub source : d.source ≡ g.one
  pub isn : d.sequence ≡ g.one_isn
  pub destination : d.destination ≡ g.other
  pub other_isn : acknowledged_isn d ≡ g.other_isn
