-- What is drawn of a capture: a rung for each segment of one session. Its tops are `rungs_in` and
-- `rungs_of_session`.
use Rattle.std.specs.Prelude.{ℕ, zero, suc, ◌+◌, ◌/◌, ◌%◌, ◌==◌, Bool, ◌&&◌, ◌||◌, length}
use Rattle.std.specs.Prelude.{List, [], ◌∷◌, ◌++◌, Option, Some, None, option_map}
use Rattle.std.specs.Prelude.{Result, Ok, Err}
use Rattle.std.specs.Prelude.{if◌then◌else◌, slice_get}
use Rattle.std.specs.List.{filter, list_any}
use Rattle.std.specs.Option.{unwrap_or}
use Rattle.book_segments.specs.declared.fault.DatagramFault.{DatagramFault}
use Rattle.book_segments.specs.Options.{find_ao}
use Rattle.book_segments.specs.Segments.{Segment, Reading, Read, Bad, reading, ACK, FIN, RST, SYN}
use Rattle.book_segments.specs.Sockets.{same_socket}
use Rattle.book_captures.specs.Captures.{CapturePacket}
use Rattle.book_cmd_check.specs.Captures.{Stored}
use Rattle.book_cmd_check.specs.declared.given.GivenIsns.{GivenIsns}
use Rattle.book_sessions.specs.declared.outcome.PassedOver.{PassedOver}
use Rattle.book_sessions.specs.declared.outcome.SegmentOutcome.{SegmentOutcome}
use Rattle.book_sessions.specs.declared.outcome.SegmentOutcome.TheVariants.{CutOff}
use Rattle.book_sessions.specs.CutOff.{cut_segment}
use Rattle.book_sessions.specs.declared.uses.KeyUse.{KeyUse}
use Rattle.book_sessions.specs.declared.uses.SeenBits.{SeenBits}
use Rattle.book_sessions.specs.declared.uses.SeenPass.{SeenPass}
use Rattle.book_sessions.specs.declared.uses.SeenSegment.{SeenSegment}
use Rattle.book_sessions.specs.Laps.{Judging}
use Rattle.book_sessions.specs.Listening.{Listened, Listening, listen, listening_behind}
use Rattle.book_sessions.specs.Sessions.{ids_found, protection_of, seen_pass, stored_of_packet}
use Rattle.book_sessions.specs.SessionTexts.{is_of_session}
use Rattle.book_draw.specs.declared.session_rung.SessionEnds.{SessionEnds}
use Rattle.book_draw.specs.declared.session_rung.SessionRung.{SessionRung}

-- a segment that was stored, seen at this time, in nanoseconds, of which this comes and was found
-- (RFC 9293, section 3.1; RFC 5925, section 2.2)
abbrev pub session_rung : (packet time : ℕ) → Segment → SegmentOutcome → Option SeenPass →
    SessionRung
session_rung packet time d said pass = record {
  packet = packet;
  time = time;
  source = d.source;
  destination = d.destination;
  flags = d.flags;
  sequence = d.sequence;
  acknowledgement = d.acknowledgement;
  length = length d.payload;
  ids = ids_found (find_ao d.area);
  protection = protection_of d.area;
  outcome = said;
  pass = pass;
}

-- the same, of a segment that was heard (own)
abbrev pub rung_heard : (packet time : ℕ) → Segment → Listened → SegmentOutcome → SessionRung
rung_heard packet time d l said =
    session_rung packet time d said (option_map (seen_pass d l.listening.held) l.pass)

-- the rung of what is said of a segment, in front of others; there is none of bytes that are none
-- (own)
abbrev pub rung_said : (SegmentOutcome → SessionRung) → Result SegmentOutcome DatagramFault →
    List SessionRung → List SessionRung
rung_said draw (Err fault) others = others
rung_said draw (Ok said) others = draw said ∷ others

-- the rung of a segment that was cut off, if there is one, in front of others (own)
abbrev pub rung_cut : (packet time : ℕ) → Option Segment → List SessionRung → List SessionRung
rung_cut packet time None others = others
rung_cut packet time (Some d) others = session_rung packet time d CutOff None ∷ others

-- a packet by its number, and when it was seen, in nanoseconds (own)
pub record SeenAt : Type 0 where
  pub packet : ℕ
  pub time : ℕ

-- the packet of this number, seen at this time (own)
abbrev pub seen_at : (packet time : ℕ) → SeenAt
seen_at packet time = record { packet = packet; time = time }

-- the rung of what is read, where it is a segment, or of the one that was cut off, in front of
-- others (own)
abbrev pub rung_before : SeenAt → (cut : Option Segment) → Listened → Reading →
    List SessionRung → List SessionRung
rung_before at cut l (Bad fault) others = rung_cut at.packet at.time cut others
rung_before at cut l (Read d) others =
    rung_said (rung_heard at.packet at.time d l) l.outcome others

-- the rung of a packet seen at this time of which this is judged, in front of others behind what
-- was heard with it (own)
abbrev pub drawn_by : Judging → Listening → (time : Option ℕ) → Result Stored PassedOver →
    (Listening → List SessionRung) → List SessionRung
drawn_by j l time (Err why) others = others l
drawn_by j l time (Ok s) others = let h = listen j l s.time (reading s.bytes) in
    rung_before (seen_at s.number (unwrap_or time 0)) (cut_segment s.bytes) h
    (reading s.bytes) (others h.listening)

-- the rungs of packets, behind what is known (own)
abbrev pub session_rungs_from : Judging → Listening → List CapturePacket → List SessionRung
session_rungs_from j l [] = []
session_rungs_from j l (p ∷ ps) = drawn_by j l p.frame.time (stored_of_packet p)
    (λ known. session_rungs_from j known ps)

-- the rungs of the packets of a capture, judged so, behind handshakes with the given initial
-- sequence numbers (own)
unfoldable pub rungs_in : Judging → (given : List GivenIsns) → List CapturePacket →
    List SessionRung
rungs_in j given packets = session_rungs_from j (listening_behind given) packets

-- both are the same two sockets, in either order (own)
abbrev pub same_ends : (one other : SessionEnds) → Bool
same_ends a b = (same_socket a.left b.left && same_socket a.right b.right)
    || (same_socket a.left b.right && same_socket a.right b.left)

-- the sockets of a segment, its source first (own)
abbrev pub ends_of : SessionRung → SessionEnds
ends_of r = record { left = r.source; right = r.destination }

-- a segment is between these sockets, in either direction (own)
abbrev pub is_between : SessionEnds → SessionRung → Bool
is_between e r = same_ends (ends_of r) e

-- the sessions that are known, after a segment: it begins one where none is between its sockets
-- (own)
abbrev pub and_session : List SessionEnds → SessionRung → List SessionEnds
and_session known r =
    if list_any (λ e. is_between e r) known then known else known ++ ends_of r ∷ []

-- the sessions that are known, after segments (own)
abbrev pub sessions_after : List SessionEnds → List SessionRung → List SessionEnds
sessions_after known [] = known
sessions_after known (r ∷ rs) = sessions_after (and_session known r) rs

-- the sessions of segments, in the order of their first ones (own)
abbrev pub sessions_drawn : List SessionRung → List SessionEnds
sessions_drawn rs = sessions_after [] rs

-- the session of this number, the first one being 1 (own)
abbrev pub session_at : (number : ℕ) → List SessionEnds → Option SessionEnds
session_at zero known = None
session_at (suc n) known = slice_get known n

-- the segments between these sockets (own)
abbrev pub rungs_between : Option SessionEnds → List SessionRung → List SessionRung
rungs_between None rs = []
rungs_between (Some e) rs = filter (is_between e) rs

-- the segments of the session of this number (own)
abbrev pub rungs_of_session : (number : ℕ) → List SessionRung → List SessionRung
rungs_of_session number rs = rungs_between (session_at number (sessions_drawn rs)) rs

-- this flag is set in a byte of flags (RFC 9293, section 3.1)
abbrev pub has_flag : (flag flags : ℕ) → Bool
has_flag flag flags = (flags / flag) % 2 == 1

-- the control bits that begin or end a connection, of a byte of flags (RFC 9293, section 3.1)
abbrev pub bits_set : ℕ → SeenBits
bits_set flags = record {
  syn = has_flag SYN flags;
  ack = has_flag ACK flags;
  fin = has_flag FIN flags;
  rst = has_flag RST flags;
}

-- a rung as a segment that was seen, at its second (own)
abbrev pub seen_of : SessionRung → SeenSegment
seen_of r = record {
  packet = r.packet;
  time = r.time / 1000000000;
  source = r.source;
  destination = r.destination;
  ids = r.ids;
  protection = r.protection;
  bits = bits_set r.flags;
  outcome = r.outcome;
  pass = r.pass;
}

-- how many segments a table counts of the session of this number (own)
abbrev pub counted_in : (number : ℕ) → List KeyUse → ℕ
counted_in number [] = 0
counted_in number (u ∷ us) =
    (if is_of_session number u then u.segments else 0) + counted_in number us

-- the sockets of segments that a table counts, their source first (own)
abbrev pub ends_of_use : KeyUse → SessionEnds
ends_of_use u = record { left = u.source; right = u.destination }
