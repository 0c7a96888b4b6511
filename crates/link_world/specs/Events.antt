-- What an event asks of the numbers in it, and of the room for its outcome.
use Rattle.std.specs.Prelude.{ℕ, ◌≤◌, List, [], length, Option, Some, None, ⊤}
use Rattle.book_keys.specs.Lifetimes.{greatest_time}
use Rattle.book_keys.specs.Tables.{IsNewRow}
use Rattle.book_link.specs.declared.event.Event.{Event}
use Rattle.book_link.specs.declared.event.Event.TheVariants.{At, Dump}
use Rattle.book_link.specs.declared.event.Action.TheVariants.{Clock, Take, AddRow}
use Rattle.book_link.specs.Worlds.{Happening, Made, segment_named}

-- a clock reads at most the greatest time, and a row is one that may be added
abbrev pub CanHappen : Event → Type 0
CanHappen (At e (Clock seconds)) = seconds ≤ greatest_time
CanHappen (At e (AddRow row)) = IsNewRow row
CanHappen _ = ⊤

-- the bytes of a segment, none where there is none (own)
abbrev pub image_bytes : Option Made → List ℕ
image_bytes None = []
image_bytes (Some m) = m.bytes

-- the most bytes that the outcome of an event carries: as many as are to be taken, or those of the
-- segment that is to be shown (own)
abbrev pub most_content : Event → List Happening → ℕ
most_content (At e (Take count)) history = count
most_content (Dump name) history = length (image_bytes (segment_named name history))
most_content _ history = 0
