-- What the events of a link answer. Our own format.
use Rattle.std.specs.Prelude.{ℕ, Bool, List}
use Rattle.book_endpoint.specs.declared.arrival.Arrival.{Arrival}
use Rattle.book_link.specs.Worlds.{Made}

-- what an event answers (own)
pub data Outcome : Type 0 where
  Done : Outcome
  Sent : (made : Made) → Outcome
  Answered : (answer : Arrival) → Outcome
  Took : (bytes : List ℕ) (end_shown : Bool) → Outcome
  Image : (bytes : List ℕ) → Outcome
  Added : (number : ℕ) → Outcome
  IsnUsed NoSession NoSegment NoPlace Full HasClosed WithoutKey Idle Nothing TooManyRows : Outcome
  OverlapWith : (number : ℕ) → Outcome
  NoRow : Outcome
