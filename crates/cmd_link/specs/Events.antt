-- What an event of a link with timers asks of the numbers in it.
use Rattle.std.specs.Prelude.{⊤}
use Rattle.book_cmd_link.specs.declared.timed.TimedEvent.{TimedEvent}
use Rattle.book_cmd_link.specs.declared.timed.TimedEvent.TheVariants.{Plain, Wait}
use Rattle.link_world.specs.Events.{CanHappen}

-- a plain event that can happen, or a wait
abbrev pub CanPass : TimedEvent → Type 0
CanPass (Plain event) = CanHappen event
CanPass (Wait e count) = ⊤
