-- The run of a link with timers from its beginning.
use Rattle.std.proofs.Common.{◌≡◌, ℕ, ◌<◌, List, [], length, Ok, Err, refl, ap, ◌∙◌, subst, lit≤}
use Rattle.book_link.specs.Reports.{report}
use Rattle.book_link.specs.Runs.{run}
use Rattle.book_link.specs.Worlds.{Setup, forgeries}
use Rattle.book_cmd_link.specs.declared.timed.TimedEvent.{TimedEvent}
use Rattle.book_cmd_link.specs.TimedRuns.{most_events}
use Rattle.book_cmd_link.specs.TimedRuns.{Progress, begins_timed, expand, expand_from, new_watch}
use Rattle.book_cmd_link.specs.declared.timer.Timer.{Timer}
use Rattle.both_ends.specs.declared.values.BothEnds.{BothEnds}
use Rattle.link_world.specs.Stands.{StandsFor}
use Rattle.cmd_link.specs.declared.timed_link.Link.{Link}
use Rattle.cmd_link.specs.declared.unfinished.Unfinished.TheVariants as unfinished
use Rattle.cmd_link.specs.Links.{Does, Reaches, Stands, expands, progress}
use Rattle.cmd_link.specs.Reports.{IsReport}
use Rattle.cmd_link.specs.Watches.{seen}

-- a link as it begins, with new timers
pub record Begins (l : Link) (setup : Setup) : Type 0 where
  pub stands : Stands l setup []
  pub progress_is : progress l setup [] ≡ begins_timed setup

pub begins : (l : Link) (setup : Setup) → StandsFor l.world setup [] → seen l.watches.a ≡ new_watch → seen l.watches.b ≡ new_watch → Begins l setup
begins l setup h a b = record { stands = record { world_is = h; few = lit≤ tt }; progress_is = rw (a, b) refl }

-- where all events happened
pub ran : (l next : Link) (setup : Setup) (events : List TimedEvent) → Begins l setup → Does (expands events) l next (Ok tt)
    → Reaches next setup (expand setup events).events (expand setup events).progress
unfolding expand
ran l next setup events b did =
    let P : Progress → Type 0 = λ p. Reaches next setup (expand_from setup p events).events (expand_from setup p events).progress in
    subst P b.progress_is (did setup [] b.stands)

-- where the plain events are too many
pub ran_too_far : (l next : Link) (setup : Setup) (events : List TimedEvent) → Begins l setup → Does (expands events) l next (Err unfinished.TooMany)
    → most_events < length (expand setup events).events
unfolding expand
ran_too_far l next setup events b did =
    let P : Progress → Type 0 = λ p. most_events < length (expand_from setup p events).events in
    subst P b.progress_is (did setup [] b.stands)

-- the report of what happened
pub reported : (next : Link) (setup : Setup) (events : List TimedEvent) (timers : BothEnds Timer) (text : List ℕ) (count : ℕ)
    → timers.a ≡ next.watches.a.timer → timers.b ≡ next.watches.b.timer → Reaches next setup (expand setup events).events (expand setup events).progress
    → text ≡ report setup (expand setup events).events → count ≡ forgeries (run setup (expand setup events).events).history
    → IsReport setup (expand setup events) timers text count
reported next setup events timers text count a b there is counted =
    record {
      few = there.stands.few;
      text_is = is;
      count_is = counted;
      a_is = a ∙ ap (λ (p : Progress). p.a.timer) there.progress_is;
      b_is = b ∙ ap (λ (p : Progress). p.b.timer) there.progress_is;
    }
