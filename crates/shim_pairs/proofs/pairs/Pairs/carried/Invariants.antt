use Rattle.std.proofs.Common.{◌≡◌, drop}
use Rattle.shim_pairs.specs.Holdings.{all_brought, carried}
use Rattle.shim_pairs.proofs.pairs.Pairs.carried.Given as goal

abbrev pub invariant-loop-at : goal.invariant-loop-at
invariant-loop-at l = all_brought l.fn.now l.self.tables (drop l.at l.self.entries) l.next ≡ carried l.fn.now l.self l.fn.tables
