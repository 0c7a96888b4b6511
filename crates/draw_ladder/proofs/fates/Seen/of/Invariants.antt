use Rattle.std.proofs.Common.{◌-◌, drop, length}
use Rattle.draw_ladder.specs.Sights.{Saw}
use Rattle.draw_ladder.proofs.fates.Seen.of.Given as goal

abbrev pub invariant-loop-done : goal.invariant-loop-done
invariant-loop-done l = Saw l.seen (drop (length l.rungs - l.done) l.rungs)
