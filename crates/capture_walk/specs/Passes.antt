-- What passing over a part makes of a reader (own).
use Rattle.std.specs.Prelude.{ℕ, ◌+◌, false, List, [], drop, Option, Some, None}
use Rattle.book_captures.specs.declared.block_parts.Interface.{Interface}
use Rattle.book_captures.specs.Parts.{FilePlace, Part, interfaces_behind}
use Rattle.book_captures.specs.Captures.{further}
use Rattle.capture_reader.specs.declared.parts.PartSays.{PartSays}
use Rattle.capture_reader.specs.declared.parts.PartSays.TheVariants as says
use Rattle.capture_walk.specs.declared.reader.CaptureStep.{CaptureStep}
use Rattle.capture_walk.specs.declared.reader.CaptureStep.TheVariants as step
use Rattle.capture_walk.specs.Reads.{Reading, packet_shown, passed_by}

-- the interfaces of the section in which a reader stands
abbrev pub interfaces_at : Option FilePlace → List Interface
interfaces_at None = []
interfaces_at (Some place) = place.interfaces

-- the answer where a part says this
abbrev pub step_by : PartSays → CaptureStep
step_by (says.Packet frame) = step.Packet
step_by _ = step.Block

-- a reader behind the part at the front of what it kept
abbrev pub taken : Reading → Part → Reading
taken before part = record {
  kept = drop part.size before.kept;
  place = Some (record { format = part.format; interfaces = interfaces_behind part.said (interfaces_at before.place) });
  counts = further before.counts part;
  passed = before.passed + passed_by part.said;
  over = false;
  packet = packet_shown before.counts.packets part.said;
}
