-- What a world stands for: a setup, and the events so far.
use Rattle.std.specs.Prelude.{◌≡◌, ℕ, List, length}
use Rattle.std.specs.List.{AllByRecursion}
use Rattle.law_link.specs.Laws.{EventFits, SetupFits}
use Rattle.book_link.specs.declared.event.Event.{Event}
use Rattle.book_link.specs.Runs.{empty, outcomes_from, run}
use Rattle.book_link.specs.Worlds as book
use Rattle.link_report.specs.Logs.{made_count}
use Rattle.link_report.specs.Outcomes.{AreShown}
use Rattle.link_world.specs.declared.setup.Setup.{Setup}
use Rattle.link_world.specs.declared.world.World.{World}
use Rattle.link_world.specs.Links.{StandsLink}

-- the link of the setup's sockets, over its tables
abbrev pub setup_of : Setup → book.Setup
setup_of s = book.setup_of s.tables s.a s.b

-- how many events a world stepped through
abbrev pub steps_taken : World → ℕ
steps_taken w = length w.outcomes.items

-- how many segments a world keeps
abbrev pub segments_made : World → ℕ
segments_made w = made_count w.log

-- a world stands for the run of these events: its ends, its history, and its outcomes; the setup and
-- each event are what their types and the calls let be
pub record StandsFor (w : World) (setup : book.Setup) (events : List Event) : Type 0 where
  pub link : StandsLink w.sides w.log setup (run setup events)
  pub shown : AreShown w.outcomes.items (outcomes_from setup (empty setup) events)
  pub setup_fits : SetupFits setup
  pub events_fit : AllByRecursion EventFits events
