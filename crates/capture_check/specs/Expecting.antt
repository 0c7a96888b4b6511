-- What is heard of a segment as if another number were expected of its sender, and what is known of
-- a connection in numbers (own).
use Rattle.std.specs.Prelude.{ℕ, List, Option, Some, None, option_map, if◌then◌else◌}
use Rattle.book_base.specs.declared.address.Socket.{Socket}
use Rattle.book_segments.specs.Segments.{Segment, Read}
use Rattle.book_keys.specs.Rows.{Table}
use Rattle.book_cmd_check.specs.Captures.{Connection, Heard, connection_between, hear_read, is_pass}
use Rattle.book_cmd_check.specs.Captures.{expecting, with_connection}
use Rattle.capture_check.specs.Checkers.{known}
use Rattle.capture_check.specs.declared.known.KnownConnection.{KnownConnection}

-- what is heard, where it is a pass; else the same is said, and the connections stay (own)
abbrev pub if_passing : List Connection → Heard → Heard
if_passing held h =
    if is_pass h.saying then h else record { connections = held; saying = h.saying }

-- what is heard of a segment of this connection, if there is one, as if the number were expected of
-- its sender (own)
abbrev pub hear_expecting :
    List Table → List Connection → ℕ → Segment → ℕ → Option Connection → Heard
hear_expecting tables held now d n None = hear_read tables held now (Read d)
hear_expecting tables held now d n (Some c) =
    if_passing held (hear_read tables (with_connection (expecting n c) held) now (Read d))

-- what is heard of a segment as if the number were expected of its sender (own)
abbrev pub hear_as : List Table → List Connection → ℕ → Segment → ℕ → Heard
hear_as tables held now d n = hear_expecting tables held now d n (connection_between d held)

-- what is heard of a segment by a given number, or else by the one that is expected (own)
abbrev pub hear_given : List Table → List Connection → ℕ → Segment → Option ℕ → Heard
hear_given tables held now d None = hear_read tables held now (Read d)
hear_given tables held now d (Some n) = hear_as tables held now d n

-- the numbers of a connection, seen from its first side (own)
abbrev pub numbers_of : Connection → KnownConnection
numbers_of c = record {
  source_isn = c.one.isn;
  destination_isn = c.two.isn;
  expected = c.one.expected;
}

-- the numbers of the connection between two sockets, if one is held (own)
abbrev pub known_numbers : Socket → Socket → List Connection → Option KnownConnection
known_numbers source destination held = option_map numbers_of (known source destination held)
