-- What is told of a segment whose sockets were opened anew (own). Its top is `IsUnhidden`.
use Rattle.std.specs.Prelude.{◌≡◌, Ok, List, None}
use Rattle.book_cmd_check.specs.Captures.{Connection, connection_between}
use Rattle.book_segments.specs.Segments.{Segment}
use Rattle.book_sessions.specs.declared.outcome.SegmentOutcome.TheVariants.{Verified}
use Rattle.book_sessions.specs.Glimpses.{is_opened_anew}
use Rattle.book_sessions.specs.Listening.{Listened, Listening}
use Rattle.std.specs.Prelude.{true}

-- the sockets of a segment that isn't a SYN were opened anew by what is known, and no connection is
-- held between them by the others (own)
pub record IsOpenedAnew (d : Segment) (l : Listening) (others : List Connection) : Type 0 where
  pub opened : is_opened_anew d l.held l.openings ≡ true
  pub unheld : connection_between d others ≡ None

-- what is known, with these connections held in the place of the others (own)
abbrev pub holding : List Connection → Listening → Listening
holding held l = record l { held = held }

-- a segment is verified; or the same comes of it one way as the other, and of the connections that
-- are taken to have begun and of the openings the same is known afterwards (own)
pub data IsUnhidden (one other : Listened) : Type 0 where
  OfOlder : one.outcome ≡ Ok Verified → IsUnhidden one other
  AsUnheld : one.outcome ≡ other.outcome → one.pass ≡ other.pass
      → one.listening.guessed ≡ other.listening.guessed
      → one.listening.openings ≡ other.listening.openings → IsUnhidden one other
