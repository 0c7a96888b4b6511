-- A datagram that came to an end.
use Rattle.std.specs.Prelude.{◌≡◌, List, ◌∷◌, Option, Some, None}
use Rattle.book_base.specs.declared.end.End.{End}
use Rattle.book_segments.specs.Segments.{bit_of}
use Rattle.book_link.specs.Steps.{Stepped}
use Rattle.book_link.specs.Worlds.{World, Came, Happening, Coming, forged, other, side as side_of}
use Rattle.link_report.specs.declared.outcome.Outcome.{Outcome}
use Rattle.link_report.specs.declared.outcome.Outcome.TheVariants as outcome
use Rattle.link_report.specs.Outcomes.{Shows}
use Rattle.link_report.specs.declared.side.Side.{Side}
use Rattle.link_report.specs.Sides.{StandsSide}
use Rattle.link_world.specs.declared.arrivals.Answered.{Answered}

-- the outcome where bytes came, or there was no session
abbrev pub outcome_come : Option Answered → Outcome
outcome_come None = outcome.NoSession
outcome_come (Some came) = outcome.Arrival came.arrival

-- the history after bytes came, of which it is known whether they are a forgery; without a session it is as it was
abbrev pub Counts : Option Answered → List Happening → List Happening → Type 0
Counts None history after = after ≡ history
Counts (Some a) history after = (came : Came) × (after ≡ Coming came ∷ history) × (forged came.at came.passed history ≡ bit_of a.forged)

-- the side stands for the end after bytes came, the other end is as it was, and it is told what came and whether it is a forgery
pub record HasReceived (w : World) (after : Stepped) (e : End) (d : Side) (answered : Option Answered) : Type 0 where
  pub side_is : StandsSide d (side_of after.world e)
  pub others : side_of after.world (other e) ≡ side_of w (other e)
  pub counts : Counts answered w.history after.world.history
  pub shows : Shows (outcome_come answered) after.outcome
