-- What the parts of a file say, seen as the book says it (own).
use Rattle.std.specs.Prelude.{ℕ, ◌+◌, ◌-◌, ◌<◌, ◌≤◌, List, [], ◌∷◌, ◌++◌, slice_range, Result}
use Rattle.book_captures.specs.declared.block_parts.Interface.{Interface}
use Rattle.book_captures.specs.declared.capture_parts.Cause.{Cause}
use Rattle.book_captures.specs.Parts.{Frame, PartSaid, Shows, Describes, Neither, most_interfaces, Part, said_part, block_said}
use Rattle.capture_reader.specs.declared.blocks.BlockPlace.{BlockPlace}
use Rattle.capture_reader.specs.declared.parts.FoundFrame.{FoundFrame}
use Rattle.capture_reader.specs.declared.parts.PartSays.{PartSays}
use Rattle.capture_reader.specs.declared.parts.PartSays.TheVariants as says
use Rattle.capture_reader.specs.declared.parts.FoundPart.{FoundPart}
use Rattle.capture_reader.specs.Places.{placed}

-- a packet at its place in these bytes
abbrev pub seen_frame : List ℕ → FoundFrame → Frame
seen_frame text f = record {
  time = f.time;
  link = f.link;
  original = f.original;
  bytes = slice_range text f.first f.after;
}

-- what is said in a section with these interfaces
abbrev pub seen_said : List Interface → List ℕ → PartSays → PartSaid
seen_said interfaces text (says.Packet f) = Shows (seen_frame text f)
seen_said interfaces text says.Section = Describes []
seen_said interfaces text (says.Interface i) = Describes (interfaces ++ i ∷ [])
seen_said interfaces text says.Other = Neither

-- a part at the front of these bytes, in a section with these interfaces
abbrev pub seen_part : List Interface → List ℕ → FoundPart → Part
seen_part interfaces text p = record {
  said = seen_said interfaces text p.says;
  format = p.format;
  size = p.size;
}

-- a packet lies within so many bytes, and an interface has room behind so many
abbrev pub IsWithin : PartSays → (known bytes : ℕ) → Type 0
IsWithin (says.Packet f) known bytes = (f.first ≤ f.after) × (f.after ≤ bytes)
IsWithin (says.Interface i) known bytes = known < most_interfaces
IsWithin _ known bytes = Unit {0}

-- a part lies within so many bytes, and what it says in it
abbrev pub IsPartWithin : FoundPart → (known bytes : ℕ) → Type 0
IsPartWithin p known bytes = (p.size ≤ bytes) × IsWithin p.says known p.size

-- the same, so many bytes further on
abbrev pub moved_by : ℕ → PartSays → PartSays
moved_by n (says.Packet f) = says.Packet (record {
  time = f.time;
  link = f.link;
  original = f.original;
  first = n + f.first;
  after = n + f.after;
})
moved_by n what = what

-- what the block at this place says
abbrev pub block_says : List Interface → List ℕ → BlockPlace → Result Part Cause
block_says interfaces text place =
    said_part (placed text place).0 (block_said interfaces (placed text place).0)
