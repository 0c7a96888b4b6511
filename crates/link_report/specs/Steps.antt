-- A side after an event at its end by which no segment is made and nothing comes.
use Rattle.std.specs.Prelude.{◌≡◌}
use Rattle.book_base.specs.declared.end.End.{End}
use Rattle.book_endpoint.specs.States.{EndState}
use Rattle.book_link.specs.declared.event.Action.{Action}
use Rattle.book_link.specs.declared.event.Event.TheVariants.{At}
use Rattle.book_link.specs.Outcomes.{Outcome}
use Rattle.book_link.specs.Steps.{Act, Stepped, on_live, step}
use Rattle.book_link.specs.Worlds.{Setup, pair_of, World, other, side as side_of}
use Rattle.link_report.specs.declared.answer.Answer.{Answer}
use Rattle.link_report.specs.declared.side.Side.{Side}
use Rattle.link_report.specs.SideOutcomes.{outcome_of}
use Rattle.link_report.specs.Sides.{StandsSide}

-- the side stands for the end after the step, the other end is as it was, nothing was made and nothing came, and the answer is the step's outcome
pub record Moved (w : World) (after : Stepped) (e : End) (d : Side) (told : Outcome) : Type 0 where
  pub stands : StandsSide d (side_of after.world e)
  pub others : side_of after.world (other e) ≡ side_of w (other e)
  pub history : after.world.history ≡ w.history
  pub outcome : after.outcome ≡ told

-- of whatever end of whatever link the side stood for, it stands for what the action makes of it, and answers so
abbrev pub Steps : Side → Side → Action → Answer → Type 0
Steps before after action told =
    (setup : Setup) (w : World) (e : End) → pair_of setup e ≡ before.pair → StandsSide before (side_of w e)
    → Moved w (step setup w (At e action)) e after (outcome_of told)

-- the same, of a call on the live session
abbrev pub StepsBy : Side → Side → (EndState → Act) → Answer → Type 0
StepsBy before after call told =
    (w : World) (e : End) → StandsSide before (side_of w e) → Moved w (on_live w e call) e after (outcome_of told)
