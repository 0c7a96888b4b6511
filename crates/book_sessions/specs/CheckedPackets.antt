-- What `check` says of each packet of a capture, and what each counts as (own). Its tops are
-- `checked_packets` and `classes_of`.
use Rattle.std.specs.Prelude.{ℕ, ◌&&◌, ◌||◌, Bool, true, false, not, List, [], ◌∷◌, map}
use Rattle.std.specs.Prelude.{Option, Some, None, Result, Ok, Err, if◌then◌else◌}
use Rattle.book_segments.specs.declared.fault.DatagramFault.{DatagramFault}
use Rattle.book_segments.specs.Options.{AoFound, Absent, One, Two, WithMd5, find_ao}
use Rattle.book_segments.specs.Segments.{Segment, Reading, Read, Bad, reading}
use Rattle.book_keys.specs.Rows.{Table}
use Rattle.book_captures.specs.Captures.{CapturePacket}
use Rattle.book_cmd_check.specs.declared.given.GivenIsns.{GivenIsns}
use Rattle.book_cmd_check.specs.Captures.{Connection, Saying, Stored, Unreadable, hear, is_pass}
use Rattle.book_cmd_check.specs.Handshakes.{given_after}
use Rattle.book_sessions.specs.declared.outcome.PassedOver.{PassedOver}
use Rattle.book_sessions.specs.declared.outcome.PassedOver.TheVariants.{Faulty}
use Rattle.book_sessions.specs.AsSent.{told_fault}
use Rattle.book_sessions.specs.CutOff.{cut_segment}
use Rattle.book_sessions.specs.Foreign.{is_of_node}
use Rattle.book_sessions.specs.OutcomeTexts.{is_doubtful}
use Rattle.book_sessions.specs.Sessions.{stored_of_packet}
use Rattle.book_sessions.specs.declared.class.PacketClass.{PacketClass}
use Rattle.book_sessions.specs.declared.class.PacketClass.TheVariants as class

-- what a packet has: a segment, whole or cut off within its payload, with what `check` says of it;
-- a datagram that is no segment, with its fault and the one that sessions tell of it; or nothing
-- that is judged, for this reason (own)
pub data CheckedContent : Type 0 where
  OfSegment : (segment : Segment) (saying : Saying) → CheckedContent
  OfBytes : (fault told : DatagramFault) → CheckedContent
  OfNothing : (why : PassedOver) → CheckedContent

-- a packet that was checked: its number, when it was seen, in nanoseconds since 1970, and what it
-- has (own)
pub record CheckedPacket : Type 0 where
  pub number : ℕ
  pub time : Option ℕ
  pub content : CheckedContent

-- what bytes with this fault are: a segment that was cut off, or none (own)
abbrev pub checked_fault : Stored → DatagramFault → (cut : Option Segment) → CheckedContent
checked_fault s fault (Some d) = OfSegment d (Unreadable fault)
checked_fault s fault None = OfBytes fault (told_fault s.bytes fault)

-- what a stored datagram is, of which this is read and said (own)
abbrev pub checked_reading : Stored → Reading → Saying → CheckedContent
checked_reading s (Read d) said = OfSegment d said
checked_reading s (Bad fault) said = checked_fault s fault (cut_segment s.bytes)

-- what a packet has of which this is judged, where `check` holds these connections (own)
abbrev pub checked_content : List Table → (held : List Connection) → Result Stored PassedOver →
    CheckedContent
checked_content tables held (Err why) = OfNothing why
checked_content tables held (Ok s) =
    checked_reading s (reading s.bytes) (hear tables held s.time s.bytes).saying

-- the connections that `check` holds after what is judged of a packet (own)
abbrev pub held_after : List Table → (held : List Connection) → Result Stored PassedOver →
    List Connection
held_after tables held (Err why) = held
held_after tables held (Ok s) = (hear tables held s.time s.bytes).connections

-- a packet, checked where these connections are held (own)
abbrev pub checked_packet : List Table → (held : List Connection) → CapturePacket → CheckedPacket
checked_packet tables held p = record {
  number = p.number;
  time = p.frame.time;
  content = checked_content tables held (stored_of_packet p);
}

-- packets, checked one after another (own)
abbrev pub checked_from : List Table → (held : List Connection) → List CapturePacket →
    List CheckedPacket
checked_from tables held [] = []
checked_from tables held (p ∷ ps) = checked_packet tables held p
    ∷ checked_from tables (held_after tables held (stored_of_packet p)) ps

-- the packets of a capture, checked after handshakes with the given initial sequence numbers (own)
abbrev pub checked_packets : List Table → List GivenIsns → List CapturePacket → List CheckedPacket
checked_packets tables given packets = checked_from tables (given_after [] given) packets

-- there is no TCP-AO option (RFC 5925, section 2.2)
abbrev pub is_absent : AoFound → Bool
is_absent Absent = true
is_absent (One ao) = false
is_absent Two = false
is_absent WithMd5 = false

-- a segment is neither from nor to a node of the key file, and carries no TCP-AO option (own)
abbrev pub is_foreign_segment : List Table → Segment → Bool
is_foreign_segment tables d = is_absent (find_ao d.area)
    && not (is_of_node tables d.source.address || is_of_node tables d.destination.address)

-- what a packet with a segment counts as (own)
abbrev pub class_by : (foreign passes : Bool) → PacketClass
class_by foreign passes = if foreign then class.Foreign
    else if passes then class.Passes else class.Refused

-- what a packet without a segment counts as, for this reason (own)
abbrev pub class_without : PassedOver → PacketClass
class_without why = if is_doubtful why then class.Doubtful else class.Other

-- what a packet counts as that has this (own)
abbrev pub class_of : List Table → CheckedContent → PacketClass
class_of tables (OfSegment d said) = class_by (is_foreign_segment tables d) (is_pass said)
class_of tables (OfBytes fault told) = class_without (Faulty told)
class_of tables (OfNothing why) = class_without why

-- what each of these packets counts as (own)
abbrev pub classes_of : List Table → List CheckedPacket → List PacketClass
classes_of tables packets = map (λ p. class_of tables p.content) packets
