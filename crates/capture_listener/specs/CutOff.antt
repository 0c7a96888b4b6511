-- The bytes of a datagram that was cut off, with zeros for those that are missing (own).
use Rattle.std.specs.Prelude.{◌≡◌, List, ℕ, Option, Some, None}
use Rattle.std.specs.declared.vec.Vec.{Vec}
use Rattle.book_segments.specs.Segments.{Read, Segment, reading}
use Rattle.book_sessions.specs.CutOff.{cut_segment}

-- the bytes are those of the segment that was cut off; or it wasn't so that its headers are there
-- (own)
abbrev pub IsWhole : {Z : Type 0} → List ℕ → Option (Vec ℕ Z) → Type 0
IsWhole bytes None = cut_segment bytes ≡ None
IsWhole bytes (Some whole) =
    (d : Segment) × (reading whole.items ≡ Read d) × (cut_segment bytes ≡ Some d)
