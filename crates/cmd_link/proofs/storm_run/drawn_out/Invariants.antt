use Rattle.std.proofs.Common.{◌≡◌, ◌+◌, ◌-◌}
use Rattle.link_world.specs.Stands.{steps_taken}
use Rattle.cmd_link.proofs.Drawing.{Storming}
use Rattle.cmd_link.proofs.storm_run.drawn_out.Given as goal

abbrev pub invariant-loop-done : goal.invariant-loop-done
invariant-loop-done l = Storming l.world l.fn.seed l.count l.state (l.count - l._done) × (steps_taken l.world ≡ l._done + 2)
