use Rattle.std.proofs.Common.{◌≡◌, ◌++◌, ◌+◌, drop}
use Rattle.book_scope_plan.specs.DifferenceTexts.{nearest_lines}
use Rattle.scope_plan.specs.Facings.{facing_of}
use Rattle.scope_plan.proofs.differences.push_nearest.Given as goal

abbrev pub invariant-loop-i : goal.invariant-loop-i
invariant-loop-i l =
    l.out.items ++ nearest_lines (facing_of l.facing) l.row l.count (l.i + 1) (drop l.i l.rows)
    ≡ l.fn.out.items ++ nearest_lines (facing_of l.facing) l.row l.count 1 l.rows
