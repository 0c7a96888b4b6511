use Rattle.link_world.specs.Stands.{setup_of}
use Rattle.cmd_link.proofs.BgpRunLaws.{Reached}
use Rattle.cmd_link.proofs.bgp_runs.run_bgp.Given as goal

abbrev pub invariant-loop-event : goal.invariant-loop-event
invariant-loop-event l = Reached l.world (setup_of l.fn.setup) l.events l.event-index l.number l.readers l.said.text.items l.said.faults
