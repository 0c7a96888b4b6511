use Rattle.std.proofs.Common.{◌≡◌, take}
use Rattle.link_world.specs.Stands.{StandsFor, setup_of, steps_taken}
use Rattle.cmd_link.proofs.link.play.Given as goal

abbrev pub invariant-loop-event : goal.invariant-loop-event
invariant-loop-event l = StandsFor l.world (setup_of l.fn.setup) (take l.event-index l.events) × (steps_taken l.world ≡ l.event-index)
