-- Which answers to an arrival move an end.
use Rattle.std.specs.Prelude.{Bool, true, false}
use Rattle.book_endpoint.specs.declared.arrival.Arrival.{Arrival}
use Rattle.book_endpoint.specs.declared.arrival.Arrival.TheVariants.{TooManyRuns, Reset, Taken}

-- The answers after which an end may be another in more than its current key, and whether an ACK is
-- owed: the segment was taken, or it reset the end, or what it acknowledges was taken alone (own).
abbrev pub moves : Arrival → Bool
moves Taken = true
moves Reset = true
moves TooManyRuns = true
moves _ = false
