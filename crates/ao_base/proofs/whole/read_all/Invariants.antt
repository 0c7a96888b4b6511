use Rattle.std.proofs.Common.{length, ◌-◌, ◌+◌, ◌≤◌}
use Rattle.ao_base.specs.Outside.{Gave}
use Rattle.ao_base.proofs.whole.read_all.Given as goal

abbrev pub invariant-reads : goal.invariant-reads
invariant-reads g l = (length l.all.items ≤ l.most) × Gave l.all.items (g.S.Source.side l.fn.src) (g.S.Source.side l.src)

abbrev pub decreases-reads : goal.decreases-reads
decreases-reads g l = l.most + 1 - length l.all.items
