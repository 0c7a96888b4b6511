-- What comes of the segments of a capture whose beginning may not have been seen (own). Its top is
-- `listen`.
use Rattle.std.specs.Prelude.{ℕ, List, [], Option, Some, None, Result, Ok, Err, if◌then◌else◌}
use Rattle.book_segments.specs.declared.fault.DatagramFault.{DatagramFault}
use Rattle.book_segments.specs.Segments.{Segment, Reading, Read, Bad}
use Rattle.book_endpoint.specs.Verdicts.{Finding}
use Rattle.book_endpoint.specs.declared.refusal.Refusal.TheVariants.{NoContext}
use Rattle.book_cmd_check.specs.Captures.{Connection, Heard, Saying, Unreadable, UnknownNode}
use Rattle.book_cmd_check.specs.Captures.{Judged, TooManyConnections}
use Rattle.book_cmd_check.specs.declared.given.GivenIsns.{GivenIsns}
use Rattle.book_cmd_check.specs.Handshakes.{given_after}
use Rattle.book_sessions.specs.declared.outcome.SegmentOutcome.{SegmentOutcome}
use Rattle.book_sessions.specs.declared.outcome.SegmentOutcome.TheVariants as outcome
use Rattle.book_sessions.specs.Glimpses.{Opening, openings_after, glimpsed, is_unknown}
use Rattle.book_sessions.specs.Glimpses.{is_opened_anew, told_anew}
use Rattle.book_sessions.specs.Laps.{Judging, hear_over}

-- what is known while a capture is heard: the connections that `check` holds, those that are taken
-- to have begun by numbers that were seen, and the openings (own)
pub record Listening : Type 0 where
  pub held : List Connection
  pub guessed : List Connection
  pub openings : List Opening

-- what is known after a segment, and what comes of it, or why the bytes are none; and what the
-- check found of it, where it is verified (own)
pub record Listened : Type 0 where
  pub listening : Listening
  pub outcome : Result SegmentOutcome DatagramFault
  pub pass : Option Finding

-- what comes of a segment of which `check` says this, or why the bytes are none (own)
abbrev pub outcome_of : Saying → Result SegmentOutcome DatagramFault
outcome_of (Unreadable fault) = Err fault
outcome_of UnknownNode = Ok outcome.NoNode
outcome_of (Judged (Ok p) checksum) = Ok outcome.Verified
outcome_of (Judged (Err why) checksum) = Ok (outcome.Refused why)
outcome_of (TooManyConnections checksum) = Ok outcome.TooMany

-- what the check found of a segment that passes (own)
abbrev pub pass_of : Saying → Option Finding
pass_of (Judged (Ok p) checksum) = Some p
pass_of _ = None

-- what comes of a segment of which this is said under numbers that were only seen (own)
abbrev pub unconfirmed_of : Saying → Result SegmentOutcome DatagramFault
unconfirmed_of (Judged (Ok p) checksum) = Ok outcome.Unconfirmed
unconfirmed_of (Judged (Err NoContext) checksum) = Ok (outcome.Refused NoContext)
unconfirmed_of (Judged (Err why) checksum) = Ok (outcome.UnconfirmedRefused why)
unconfirmed_of said = outcome_of said

-- what is known after a segment that was heard by the connections held alone (own)
abbrev pub heard_once : Heard → (guessed : List Connection) → List Opening → Listened
heard_once h guessed openings = record {
  listening = record { held = h.connections; guessed = guessed; openings = openings };
  outcome = outcome_of h.saying;
  pass = pass_of h.saying;
}

-- what is known after a segment that was heard by the connections held, and then by those that are
-- taken to have begun (own)
abbrev pub heard_twice : (by_held by_guessed : Heard) → List Opening → Listened
heard_twice h k openings = record {
  listening = record { held = h.connections; guessed = k.connections; openings = openings };
  outcome = unconfirmed_of k.saying;
  pass = None;
}

-- what is said of a segment by the connections held: by one that was opened anew, no refusal for
-- its numbers (own)
abbrev pub said_of : Judging → Listening → (now : ℕ) → Segment → Saying
said_of j l now d =
    told_anew (is_opened_anew d l.held l.openings) (hear_over j l.held now d).saying

-- a segment is heard by what is known; where it has no context by the connections held, or one that
-- was opened anew refuses it, it is heard by those that are taken to have begun (own)
abbrev pub listen_to : Judging → Listening → (now : ℕ) → Segment → Listened
listen_to j l now d =
    let h = hear_over j l.held now d in
    let openings = openings_after d h.saying l.openings in
    let guessed = glimpsed d (said_of j l now d) l.openings l.guessed in
    if is_unknown (said_of j l now d)
    then heard_twice h (hear_over j guessed now d) openings
    else heard_once h guessed openings

-- what is read of a stored datagram is heard by what is known (own)
unfoldable pub listen : Judging → Listening → (now : ℕ) → Reading → Listened
listen j l now (Bad fault) = record { listening = l; outcome = Err fault; pass = None }
listen j l now (Read d) = listen_to j l now d

-- what is known before a capture, behind handshakes with the given initial sequence numbers (own)
abbrev pub listening_behind : List GivenIsns → Listening
listening_behind given =
    record { held = given_after [] given; guessed = []; openings = [] }
