use Rattle.std.proofs.Common.{length, ◌-◌, ◌≤◌, take}
use Rattle.ao_base.specs.Outside.{WasWritten}
use Rattle.ao_base.proofs.whole.write_all.Given as goal

abbrev pub invariant-loop-at : goal.invariant-loop-at
invariant-loop-at g l = (l.at ≤ length l.bytes) × WasWritten (take l.at l.bytes) (g.S.Sink.side l.fn.sink) (g.S.Sink.side l.sink)

abbrev pub decreases-loop-at : goal.decreases-loop-at
decreases-loop-at g l = length l.bytes - l.at
