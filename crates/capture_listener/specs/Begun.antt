-- A connection that is taken to have begun with numbers that were seen (own).
use Rattle.std.specs.Prelude.{ℕ, ◌==◌, Bool, false, List, Option, Some, None, if◌then◌else◌}
use Rattle.book_segments.specs.Segments.{Segment}
use Rattle.book_cmd_check.specs.declared.given.GivenIsns.{GivenIsns}
use Rattle.book_cmd_check.specs.Captures.{Connection, acknowledged_isn}
use Rattle.book_cmd_check.specs.Handshakes.{and_given}
use Rattle.capture_check.specs.Checkers.{known}

-- the connection is known with the first of these numbers (own)
abbrev pub is_begun : GivenIsns → Option Connection → Bool
is_begun g None = false
is_begun g (Some c) = c.one.isn == g.one_isn

-- the connections once one began with these numbers, unless it is known with the first of them
-- (own)
abbrev pub and_begun : GivenIsns → List Connection → List Connection
and_begun g guessed =
    if is_begun g (known g.one g.other guessed) then guessed else and_given g guessed

-- the numbers that the first ACK behind a SYN of this number tells (RFC 9293, section 3.5)
abbrev pub completing : Segment → ℕ → GivenIsns
completing d isn = record {
  one = d.source;
  one_isn = isn;
  other = d.destination;
  other_isn = acknowledged_isn d;
}
