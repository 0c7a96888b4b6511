-- That a segment passes the check, perhaps with more laps expected of its sender (own). Its tops:
-- `PassesBehind` and `PassesGuessed`.
use Rattle.std.specs.Prelude.{◌≡◌, ◌≤◌, ◌+◌, ◌*◌, ℕ, true, List, Some}
use Rattle.book_segments.specs.Bytes.{ring}
use Rattle.book_segments.specs.Segments.{Segment}
use Rattle.book_endpoint.specs.States.{number_limit}
use Rattle.book_cmd_check.specs.Captures.{Connection, connection_between, is_pass}
use Rattle.book_sessions.specs.Glimpses.{glimpsed, is_unknown}
use Rattle.book_sessions.specs.Laps.{Judging, heard_by, is_searched, with_expected}
use Rattle.book_sessions.specs.Listening.{Listening, said_of}

-- a segment passes the check by these connections where so many laps more are expected of its
-- sender (RFC 5925, section 6.2)
pub record PassesAhead (j : Judging) (held : List Connection) (now : ℕ) (d : Segment)
    (laps : ℕ) : Type 0 where
  pub connection : Connection
  pub between : connection_between d held ≡ Some connection
  pub few : laps ≤ j.laps
  pub passes : is_pass (heard_by j now d
      (with_expected (connection.one.expected + laps * ring) connection held)).saying ≡ true

-- a segment passes the check by these connections, as they are or with some laps more (RFC 5925,
-- sections 6.2 and 7.5)
pub data PassesBehind (j : Judging) (held : List Connection) (now : ℕ) (d : Segment) : Type 0 where
  AtOnce : is_pass (heard_by j now d held).saying ≡ true → PassesBehind j held now d
  Later : (laps : ℕ) → PassesAhead j held now d laps → PassesBehind j held now d

-- a segment that is searched passes the check where so many laps more are expected of its sender,
-- as far as a sequence number extension goes (RFC 5925, section 6.2)
pub record FoundAhead (j : Judging) (held : List Connection) (now : ℕ) (d : Segment)
    (laps : ℕ) : Type 0 where
  pub searched : is_searched d (heard_by j now d held).saying ≡ true
  pub ahead : PassesAhead j held now d laps
  pub more : 1 ≤ laps
  pub in_range : ahead.connection.one.expected + laps * ring ≤ number_limit

-- a segment has no context by the connections that are held, or one that was opened anew refuses
-- its number or its MAC; and it passes by those that are taken to have begun (RFC 5925, section
-- 5.2, and own)
pub record PassesGuessed (j : Judging) (l : Listening) (now : ℕ) (d : Segment) : Type 0 where
  pub unknown : is_unknown (said_of j l now d) ≡ true
  pub passes : PassesBehind j (glimpsed d (said_of j l now d) l.openings l.guessed) now d
