-- What the run of a link with timers answers.
use Rattle.std.specs.Prelude.{◌≡◌, ◌<◌, ◌≤◌, ℕ, List, length}
use Rattle.book_cmd_link.specs.declared.timer.Timer.{Timer}
use Rattle.book_link.specs.Reports.{report}
use Rattle.book_link.specs.Runs.{run}
use Rattle.book_link.specs.Worlds.{Setup, forgeries}
use Rattle.book_cmd_link.specs.declared.timed.TimedEvent.{TimedEvent}
use Rattle.book_cmd_link.specs.TimedRuns.{most_events}
use Rattle.book_cmd_link.specs.TimedRuns.{Expanded, expand}
use Rattle.both_ends.specs.declared.values.BothEnds.{BothEnds}
use Rattle.cmd_link.specs.declared.runs.TimedRun.{TimedRun}
use Rattle.cmd_link.specs.declared.runs.TimedRun.TheVariants.{Report, TooMany}

-- the report of the plain run and its forgeries, and the timers that are left
pub record IsReport (setup : Setup) (x : Expanded) (timers : BothEnds Timer) (text : List ℕ) (count : ℕ) : Type 0 where
  pub few : length x.events ≤ most_events
  pub text_is : text ≡ report setup x.events
  pub count_is : count ≡ forgeries (run setup x.events).history
  pub a_is : timers.a ≡ x.progress.a.timer
  pub b_is : timers.b ≡ x.progress.b.timer

-- the report of the plain run that the events are, or that it has too many events
abbrev pub Reports : Setup → List TimedEvent → BothEnds Timer → TimedRun → Type 0
Reports setup events timers (Report text count) = IsReport setup (expand setup events) timers text count
Reports setup events timers TooMany = most_events < length (expand setup events).events
