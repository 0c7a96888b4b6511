use Rattle.std.proofs.Common.{ℕ, ◌-◌, List, length}
use Rattle.ao_base.specs.Found.{Searching}
use Rattle.ao_base.proofs.search.find_line.Given as goal

abbrev pub invariant-takes : goal.invariant-takes
invariant-takes g l = (given : List ℕ) × Searching l.fn.buffer l.buffer (g.S.Source.side l.fn.src) (g.S.Source.side l.src) given l.seen

abbrev pub decreases-takes : goal.decreases-takes
decreases-takes g l = l.buffer.size - length l.buffer.kept
