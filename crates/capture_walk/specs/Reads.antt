-- What one call of a reader of captures does (own).
use Rattle.std.specs.Prelude.{◌≡◌, ℕ, ◌+◌, ◌<◌, ◌≤◌, Bool, true, false, List, [], ◌++◌, length, drop, Option, Some, None, Result, Ok, Err}
use Rattle.std.specs.List.{All}
use Rattle.ao_base.specs.Outside.{Side, Gave, Rose, IsAtEnd, told}
use Rattle.book_captures.specs.declared.capture_parts.CaptureFault.{CaptureFault}
use Rattle.book_captures.specs.declared.capture_parts.Cause.{Cause}
use Rattle.book_captures.specs.Parts.{PartSaid, Shows, Describes, Neither, FilePlace, OpenedFile}
use Rattle.book_captures.specs.Captures.{CapturePacket, Capture, PartCounts, with_said, ended, capture_at}
use Rattle.book_base.specs.Hexadecimal.{IsByte}
use Rattle.capture_walk.specs.Fronts.{opened_from}
use Rattle.capture_walk.specs.declared.reader.CaptureStep.{CaptureStep}
use Rattle.capture_walk.specs.declared.reader.CaptureStep.TheVariants as step
use Rattle.capture_walk.specs.declared.reader.CaptureHalt.{CaptureHalt}
use Rattle.capture_walk.specs.declared.reader.CaptureHalt.TheVariants as halt

-- the most bytes that are read of a file: 2 ^ 63
abbrev pub most_read : ℕ
most_read = 9223372036854775808

-- the most bytes that are kept: those of the longest block, and 65,536
abbrev pub most_buffered : ℕ
most_buffered = 16842752

-- the most bytes that are taken past the last part that was read: those that are kept, and in front
-- of the first part those of a file's header
abbrev pub most_ahead : ℕ
most_ahead = 16842776

-- a reader of captures is: the bytes that it took and hasn't passed, where it stands in the file, if
-- behind the front, how far it is, how many blocks it passed over, whether a call has answered
-- anything but Packet and Block, and the packet of the last call, where that answered Packet
pub record Reading : Type 0 where
  pub kept : List ℕ
  pub place : Option FilePlace
  pub counts : PartCounts
  pub passed : ℕ
  pub over : Bool
  pub packet : Option CapturePacket

-- a new reader
abbrev pub new_reading : Reading
new_reading = record {
  kept = [];
  place = None;
  counts = record { packets = 0; parts = 0; bytes = 0 };
  passed = 0;
  over = false;
  packet = None;
}

-- behind a header
abbrev pub behind_header : PartCounts → ℕ → PartCounts
behind_header counts size =
    record { packets = counts.packets; parts = counts.parts; bytes = counts.bytes + size }

-- what is to come of a capture, where these bytes begin so
abbrev pub to_come_by : PartCounts → Result OpenedFile Cause → List ℕ → Capture
to_come_by counts (Err why) text = record {
  packets = [];
  passed = 0;
  fault = Some (record { cause = why; number = 0; byte = 0 });
}
to_come_by counts (Ok front) text =
    capture_at front.place (behind_header counts front.size) (drop front.size text)

-- what is to come of a capture behind what the reader has passed, where these bytes follow; for a
-- new reader the capture in them
abbrev pub to_come : Reading → List ℕ → Capture
to_come reading text = to_come_by reading.counts (opened_from reading.place text) text

-- the same, where the source has these bytes left
abbrev pub left_to_come : Reading → List ℕ → Capture
left_to_come reading left = to_come reading (reading.kept ++ left)

-- the packet that a part shows behind so many
abbrev pub packet_shown : ℕ → PartSaid → Option CapturePacket
packet_shown count (Shows frame) = Some (record { number = count + 1; frame = frame })
packet_shown count said = None

-- how many blocks a part adds to those that were passed over
abbrev pub passed_by : PartSaid → ℕ
passed_by Neither = 1
passed_by said = 0

-- a part shows a packet
abbrev pub ShowsPacket : PartSaid → Type 0
ShowsPacket (Shows frame) = Unit {0}
ShowsPacket said = ⊥

-- a part shows none
abbrev pub ShowsNone : PartSaid → Type 0
ShowsNone (Shows frame) = ⊥
ShowsNone said = Unit {0}

-- of the bytes that were kept and given the reader passes over some, which say this, whatever follows
pub record Passes (before now : Reading) (text : List ℕ) (said : PartSaid) : Type 0 where
  pub past : List ℕ
  pub split : text ≡ past ++ now.kept
  pub some : 0 < length past
  pub shown : now.packet ≡ packet_shown before.counts.packets said
  pub passed : now.passed ≡ before.passed + passed_by said
  pub bytes : now.counts.bytes ≡ before.counts.bytes + length past
  pub within : now.counts.bytes ≤ most_read
  pub says : (more : List ℕ) → to_come before (past ++ more) ≡ with_said said before.counts.packets (to_come now more)
  pub going : now.over ≡ false

-- no packet is shown, and no call may follow
pub record Stops (before now : Reading) : Type 0 where
  pub packet : now.packet ≡ None
  pub over : now.over ≡ true
  pub packets : now.counts.packets ≡ before.counts.packets
  pub passed : now.passed ≡ before.passed

-- a capture in which nothing stands before this fault
abbrev pub only_fault : CaptureFault → Capture
only_fault fault = record { packets = []; passed = 0; fault = Some fault }

-- what each answer says, where these bytes were kept and given
abbrev pub Answers : Reading → Reading → Side → Side → List ℕ → Result CaptureStep CaptureHalt → Type 0
Answers before now source_before source_now text (Ok step.Packet) =
    (said : PartSaid) × Passes before now text said × ShowsPacket said
Answers before now source_before source_now text (Ok step.Block) =
    (said : PartSaid) × Passes before now text said × ShowsNone said
Answers before now source_before source_now text (Ok step.End) =
    Stops before now × IsAtEnd source_now × (to_come before text ≡ ended)
Answers before now source_before source_now text (Err halt.Read) =
    Stops before now × Rose source_before source_now
Answers before now source_before source_now text (Err halt.TooLong) =
    Stops before now × (most_read < before.counts.bytes + length text)
Answers before now source_before source_now text (Err (halt.Broken fault)) =
    Stops before now × (to_come before text ≡ only_fault fault)
    × (to_come before (text ++ told source_now.bytes) ≡ only_fault fault)

-- one call of `next`, in which the source gave these bytes
pub record Steps (before now : Reading) (source_before source_now : Side) (given : List ℕ) (result : Result CaptureStep CaptureHalt) : Type 0 where
  pub gave : Gave given source_before source_now
  pub bytes : All IsByte given
  pub bound : length now.kept ≤ most_buffered
  pub few : length (before.kept ++ given) ≤ most_ahead
  pub answers : Answers before now source_before source_now (before.kept ++ given) result

-- the answer is the next packet of what is to come, or its end: where the source had these bytes left,
-- and now has these
abbrev pub Walks : Reading → Reading → List ℕ → List ℕ → Result CaptureStep CaptureHalt → Type 0
Walks before now left left_now (Ok step.Packet) = (said : PartSaid) × ShowsPacket said
    × (now.packet ≡ packet_shown before.counts.packets said)
    × (left_to_come before left ≡ with_said said before.counts.packets (left_to_come now left_now))
Walks before now left left_now (Ok step.Block) = (said : PartSaid) × ShowsNone said
    × (left_to_come before left ≡ with_said said before.counts.packets (left_to_come now left_now))
Walks before now left left_now (Ok step.End) = left_to_come before left ≡ ended
Walks before now left left_now (Err (halt.Broken fault)) = left_to_come before left ≡ only_fault fault
Walks before now left left_now (Err other) = Unit {0}
