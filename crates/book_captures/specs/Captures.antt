-- A capture, of either format: its packets, and how it ends.
use Rattle.std.specs.Prelude.{ℕ, zero, suc, ◌+◌, ◌==◌, List, [], ◌∷◌, length, drop, Option, Some}
use Rattle.std.specs.Prelude.{None, Result, Ok, Err, if◌then◌else◌}
use Rattle.book_captures.specs.declared.capture_parts.CaptureFault.{CaptureFault}
use Rattle.book_captures.specs.declared.capture_parts.Cause.{Cause}
use Rattle.book_captures.specs.declared.link_type.LinkType.{LinkType}
use Rattle.book_captures.specs.declared.reasons.Skipped.{Skipped}
use Rattle.book_captures.specs.declared.reasons.Skipped.TheVariants.{UnknownLink}
use Rattle.book_captures.specs.Frames.{link_type, Datagram, datagram_in}
use Rattle.book_captures.specs.Parts.{Frame, PartSaid, Shows, Describes, Neither, FilePlace, Part}
use Rattle.book_captures.specs.Parts.{part_at, behind_part, OpenedFile, capture_opened}

-- the datagram of a packet with this link type, or why the packet is passed over (own)
abbrev pub datagram_by : Option LinkType → Frame → Result Datagram Skipped
datagram_by None f = Err (UnknownLink f.link)
datagram_by (Some link) f = datagram_in link f.bytes f.original

-- the datagram of a packet, or why the packet is passed over (own)
unfoldable pub frame_datagram : Frame → Result Datagram Skipped
frame_datagram f = datagram_by (link_type f.link) f

-- a packet of a capture: its number, from 1 on, and what the capture keeps of it (own)
pub record CapturePacket : Type 0 where
  pub number : ℕ
  pub frame : Frame

-- a capture: its packets up to the first fault, how many blocks were passed over, since they
-- neither show a packet nor say how others are read, and that fault (own)
pub record Capture : Type 0 where
  pub packets : List CapturePacket
  pub passed : ℕ
  pub fault : Option CaptureFault

-- how far a reading is: behind so many packets, parts and bytes (own)
pub record PartCounts : Type 0 where
  pub packets : ℕ
  pub parts : ℕ
  pub bytes : ℕ

-- how many packets a part shows (own)
abbrev pub shown_by : PartSaid → ℕ
shown_by (Shows frame) = 1
shown_by said = 0

-- behind one more part (own)
abbrev pub further : PartCounts → Part → PartCounts
further counts part = record {
  packets = counts.packets + shown_by part.said;
  parts = counts.parts + 1;
  bytes = counts.bytes + part.size;
}

-- what a part says behind so many packets, in front of others (own)
abbrev pub with_said : PartSaid → ℕ → Capture → Capture
with_said (Shows frame) count others = record {
  packets = record { number = count + 1; frame = frame } ∷ others.packets;
  passed = others.passed;
  fault = others.fault;
}
with_said (Describes interfaces) count others = others
with_said Neither count others =
    record { packets = others.packets; passed = others.passed + 1; fault = others.fault }

-- nothing more (own)
abbrev pub ended : Capture
ended = record { packets = []; passed = 0; fault = None }

-- nothing more, for this reason, in the part behind so many (own)
abbrev pub broken : PartCounts → Cause → Capture
broken counts why = record {
  packets = [];
  passed = 0;
  fault = Some (record { cause = why; number = counts.parts + 1; byte = counts.bytes });
}

-- what is read of the part behind so many, where what follows it is known (own)
abbrev pub capture_by : PartCounts → Result Part Cause → (Part → Capture) → Capture
capture_by counts (Err why) others = broken counts why
capture_by counts (Ok part) others = with_said part.said counts.packets (others part)

-- the parts of these bytes; the first argument bounds how many there are (own)
unfoldable pub capture_from : ℕ → FilePlace → PartCounts → List ℕ → Capture
capture_from zero place counts text = ended
capture_from (suc k) place counts text = if length text == 0 then ended
    else capture_by counts (part_at place text) (λ part.
    capture_from k (behind_part place part) (further counts part) (drop part.size text))

-- the parts of these bytes (own)
abbrev pub capture_at : FilePlace → PartCounts → List ℕ → Capture
capture_at place counts text = capture_from (length text) place counts text

-- the parts behind a header; a header that is refused is part 0 (own)
abbrev pub capture_behind : Result OpenedFile Cause → List ℕ → Capture
capture_behind (Err why) file = record {
  packets = [];
  passed = 0;
  fault = Some (record { cause = why; number = 0; byte = 0 });
}
capture_behind (Ok front) file = capture_at front.place
    (record { packets = 0; parts = 0; bytes = front.size })
    (drop front.size file)

-- the capture in a file (own)
unfoldable pub capture_of : List ℕ → Capture
capture_of file = capture_behind (capture_opened file) file
