use Rattle.std.proofs.Common.{drop}
use Rattle.cmd_link.specs.Links.{expands}
use Rattle.cmd_link.proofs.Expansions.{Left}
use Rattle.cmd_link.proofs.timed_link.Link.happen_all.Given as goal

abbrev pub invariant-loop-event : goal.invariant-loop-event
invariant-loop-event l = Left (expands l.events) (expands (drop l.event-index l.events)) l.fn.self l.self
