-- What a link with timers stands for, and what a call makes of it.
use Rattle.std.specs.Prelude.{◌≡◌, ℕ, ◌<◌, ◌≤◌, nat_lt, List, [], ◌∷◌, ◌++◌, length, Option, Some, None, Result, Ok, Err, if◌then◌else◌, ⊤}
use Rattle.book_base.specs.declared.end.End.{End}
use Rattle.book_link.specs.declared.event.Event.{Event}
use Rattle.book_link.specs.declared.event.Event.TheVariants as event
use Rattle.book_link.specs.declared.event.Action.TheVariants as action
use Rattle.book_link.specs.Runs.{run}
use Rattle.book_link.specs.Worlds.{Setup}
use Rattle.book_cmd_link.specs.declared.timed.TimedEvent.{TimedEvent}
use Rattle.book_cmd_link.specs.TimedRuns.{most_events}
use Rattle.book_cmd_link.specs.TimedRuns.{Expanded, Progress, after_expiry, expand_from, expiry, plain, timed_event, until, waited}
use Rattle.link_world.specs.Stands.{StandsFor}
use Rattle.cmd_link.specs.declared.timed_link.Link.{Link}
use Rattle.cmd_link.specs.declared.unfinished.Unfinished.{Unfinished}
use Rattle.cmd_link.specs.declared.unfinished.Unfinished.TheVariants as unfinished
use Rattle.cmd_link.specs.Watches.{seen}

-- what is expanded of a progress on a link
abbrev pub Makes : Type 0
Makes = Setup → Progress → Expanded

-- the progress of a link after these plain events
abbrev pub progress : Link → Setup → List Event → Progress
progress l setup past = record { world = run setup past; a = seen l.watches.a; b = seen l.watches.b }

-- the link stands for these plain events, and they aren't too many
pub record Stands (l : Link) (setup : Setup) (past : List Event) : Type 0 where
  pub world_is : StandsFor l.world setup past
  pub few : length past ≤ most_events

-- the link stands for these plain events, and this progress
pub record Reaches (l : Link) (setup : Setup) (past : List Event) (p : Progress) : Type 0 where
  pub stands : Stands l setup past
  pub progress_is : progress l setup past ≡ p

-- what is expanded came about, or the plain events are too many, or memory ran out
abbrev pub Does : Makes → Link → Link → Result (Unit {0}) Unfinished → Type 0
Does makes before after (Ok done) =
    (setup : Setup) (past : List Event) → Stands before setup past
    → let x = makes setup (progress before setup past) in Reaches after setup (past ++ x.events) x.progress
Does makes before after (Err unfinished.TooMany) =
    (setup : Setup) (past : List Event) → Stands before setup past
    → most_events < length (past ++ (makes setup (progress before setup past)).events)
Does makes before after (Err (unfinished.Memory error)) = ⊤

-- a plain event
abbrev pub steps : Event → Makes
steps event setup p = record { events = event ∷ []; progress = plain setup p event }

-- the end's clock goes to a reading
abbrev pub untils : End → ℕ → Makes
untils e to setup p = until setup e to p

-- the end's timer expires at a reading
abbrev pub expires : End → ℕ → Makes
expires e d setup p =
    let sent_again = plain setup (plain setup p (event.At e (action.Clock d))) (event.At e action.Resend) in
    record { events = expiry e d; progress = after_expiry e sent_again }

-- the same, where it is at this reading at the latest
abbrev pub up_to : ℕ → Option ℕ → Option ℕ
up_to to None = None
up_to to (Some d) = if nat_lt to d then None else Some d

-- the end waits up to a reading, with at most so many expiries
abbrev pub waits : ℕ → End → ℕ → Makes
waits most e to setup p = waited most setup e to p

-- an event of a link with timers
abbrev pub happens : TimedEvent → Makes
happens event setup p = timed_event setup p event

-- events of a link with timers
abbrev pub expands : List TimedEvent → Makes
expands events setup p = expand_from setup p events
