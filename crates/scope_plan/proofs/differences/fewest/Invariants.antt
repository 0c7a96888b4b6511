use Rattle.std.proofs.Common.{◌≡◌, drop}
use Rattle.book_scope_plan.specs.FindingTexts.{fewest}
use Rattle.scope_plan.proofs.differences.fewest.Given as goal

abbrev pub invariant-loop-other : goal.invariant-loop-other
invariant-loop-other l = fewest l.pair l.row l.least (drop l.other-index l.others) ≡ fewest l.pair l.row 7 l.others
