use Rattle.std.specs.Prelude.{[], ◌∷◌}
use Rattle.book_base.specs.declared.end.End.TheVariants.{A}
use Rattle.book_link.specs.declared.event.Event.TheVariants.{At}
use Rattle.book_link.specs.declared.event.Action.TheVariants.{Start}
use Rattle.book_link.specs.Storm.{storm_setup}
use Rattle.cmd_link.proofs.storm_run.started.Goals as goal

-- the first event, and then the second
pub returns-clause-stands : goal.returns-clause-stands
returns-clause-stands c =
    c.in_ok-step-2.ensures.stands storm_setup (At A (Start 4294960000 4000000000) ∷ []) (c.in_ok-step.ensures.stands storm_setup [] c.in_ok-world.ensures.stands)
