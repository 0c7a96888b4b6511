use Rattle.std.proofs.Common.{take}
use Rattle.link_world.specs.Stands.{setup_of}
use Rattle.scope_draw.proofs.RungLaws.{Drawing}
use Rattle.scope_draw.proofs.runs.rungs_of.Given as goal

abbrev pub invariant-loop-event : goal.invariant-loop-event
invariant-loop-event l = Drawing l.world (setup_of l.fn.setup) (take l.event-index l.events) l.event-index l.rungs.items
