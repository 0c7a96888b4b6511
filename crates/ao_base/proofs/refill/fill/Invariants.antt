use Rattle.std.proofs.Common.{ℕ, ◌-◌, List, length}
use Rattle.ao_base.specs.Fillings.{Filling}
use Rattle.ao_base.proofs.refill.fill.Given as goal

abbrev pub invariant-takes : goal.invariant-takes
invariant-takes g l = (given : List ℕ) × Filling l.fn.buffer l.buffer (g.S.Source.side l.fn.src) (g.S.Source.side l.src) given

abbrev pub decreases-takes : goal.decreases-takes
decreases-takes g l = l.buffer.size - length l.buffer.kept
