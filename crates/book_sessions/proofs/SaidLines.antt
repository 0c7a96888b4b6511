-- The lines of packets, shortened, are those of the check.
use Rattle.std.proofs.Common.{◌≡◌, ℕ, ◌/◌, true, List, [], ◌∷◌, ◌++◌, Option, Some, None, Result, Ok, Err, refl}
use Rattle.book_segments.specs.declared.fault.DatagramFault.{DatagramFault}
use Rattle.book_segments.specs.Segments.{Segment, Reading, Read, Bad, reading}
use Rattle.book_keys.specs.Rows.{Table}
use Rattle.book_lines.specs.Texts.{numbered_text}
use Rattle.book_captures.specs.declared.reasons.Skipped.{Skipped}
use Rattle.book_captures.specs.Frames.{Datagram}
use Rattle.book_captures.specs.Captures.{CapturePacket, frame_datagram}
use Rattle.book_cmd_check.specs.Captures.{Connection, Saying, Stored, Unreadable, capture_run, hear, hear_read, lines_of_sayings, saying_texts, sayings_from}
use Rattle.book_captures.specs.PacketLines.{judged_bytes}
use Rattle.book_sessions.specs.declared.outcome.PassedOver.{PassedOver}
use Rattle.book_sessions.specs.AsSent.{mended}
use Rattle.book_sessions.specs.CutOff.{cut_segment}
use Rattle.book_sessions.specs.Sessions.{all_stored, stored_before, stored_by}
use Rattle.book_sessions.specs.CheckedPackets.{CheckedContent, CheckedPacket, checked_content, checked_fault, checked_from, checked_packets, checked_reading, held_after}
use Rattle.book_sessions.specs.Outcomes.{is_said, said_packets, shortened_line, shortened_lines}

-- a packet of which something is said, with its line
record IsSaidAs (content : CheckedContent) (said : Saying) : Type 0 where
  is_one : is_said content ≡ true
  line : (number : ℕ) (time : Option ℕ) → shortened_line (record { number = number; time = time; content = content }) ≡ numbered_text number (saying_texts said)

fault_said : (s : Stored) (fault : DatagramFault) (cut : Option Segment) → IsSaidAs (checked_fault s fault cut) (Unreadable fault)
fault_said s fault (Some d) = record { is_one = refl; line = λ number time. refl }
fault_said s fault None = record { is_one = refl; line = λ number time. refl }

reading_said : (tables : List Table) (held : List Connection) (s : Stored) (r : Reading) → IsSaidAs (checked_reading s r (hear_read tables held s.time r).saying) (hear_read tables held s.time r).saying
reading_said tables held s (Read d) = record { is_one = refl; line = λ number time. refl }
reading_said tables held s (Bad fault) = fault_said s fault (cut_segment s.bytes)

stored_said : (tables : List Table) (held : List Connection) (s : Stored) → IsSaidAs (checked_content tables held (Ok s)) (hear tables held s.time s.bytes).saying
unfolding hear
stored_said tables held s = reading_said tables held s (reading s.bytes)

-- one packet that is said something of, in front of others
one_said : (p : CheckedPacket) (said : Saying) (others : List CheckedPacket) (lines : List ℕ) → IsSaidAs p.content said → shortened_lines (said_packets others) ≡ lines
    → shortened_lines (said_packets (p ∷ others)) ≡ numbered_text p.number (saying_texts said) ++ lines
one_said p said others lines is rest = rw (is.is_one, is.line p.number p.time, rest) refl

-- what is judged of a datagram that was seen at this time
abbrev stored_at : ℕ → ℕ → Datagram → Stored
stored_at number t d = record { number = number; time = t / 1000000000; bytes = mended (judged_bytes d) }

module _ (tables : List Table) (others : List CapturePacket)
    (rest : (held : List Connection) → shortened_lines (said_packets (checked_from tables held others)) ≡ lines_of_sayings (all_stored others) (sayings_from tables held (all_stored others))) where
  abbrev seen_first : ℕ → Option ℕ → List Connection → Result Stored PassedOver → List CheckedPacket
  seen_first number time held r = record { number = number; time = time; content = checked_content tables held r } ∷ checked_from tables (held_after tables held r) others

  abbrev lines_first : List Connection → Result Stored PassedOver → List ℕ
  lines_first held r = lines_of_sayings (stored_before r (all_stored others)) (sayings_from tables held (stored_before r (all_stored others)))

  first_said : (number : ℕ) (time : Option ℕ) (found : Result Datagram Skipped) (held : List Connection)
      → shortened_lines (said_packets (seen_first number time held (stored_by number time found))) ≡ lines_first held (stored_by number time found)
  first_said number time (Err why) held = rest held
  first_said number None (Ok d) held = rest held
  first_said number (Some t) (Ok d) held =
      let s : Stored = stored_at number t d in
      one_said (record { number = number; time = Some t; content = checked_content tables held (Ok s) }) (hear tables held s.time s.bytes).saying
      (checked_from tables (hear tables held s.time s.bytes).connections others) _ (stored_said tables held s) (rest (hear tables held s.time s.bytes).connections)

pub lines_said : (tables : List Table) (packets : List CapturePacket) (held : List Connection)
    → shortened_lines (said_packets (checked_from tables held packets)) ≡ lines_of_sayings (all_stored packets) (sayings_from tables held (all_stored packets))
lines_said tables [] held = refl
lines_said tables (p ∷ ps) held = first_said tables ps (lines_said tables ps) p.number p.frame.time (frame_datagram p.frame) held

pub run_said : (tables : List Table) (packets : List CapturePacket) → shortened_lines (said_packets (checked_packets tables [] packets)) ≡ capture_run tables (all_stored packets)
unfolding capture_run
run_said tables packets = lines_said tables packets []
