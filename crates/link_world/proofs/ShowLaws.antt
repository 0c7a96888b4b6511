-- The report of a world.
use Rattle.std.proofs.Common.{◌≡◌, List, ◌++◌, refl}
use Rattle.book_link.specs.declared.event.Event.{Event}
use Rattle.book_link.specs.Reports.{lines_from, report, summary}
use Rattle.book_link.specs.Runs.{empty, outcomes_from, run}
use Rattle.book_link.specs.Worlds.{Setup}

-- the report is the lines of the outcomes, and the summary
pub report_is : (setup : Setup) (events : List Event)
    → report setup events ≡ lines_from 1 (outcomes_from setup (empty setup) events) ++ summary (run setup events)
unfolding report
report_is setup events = refl
