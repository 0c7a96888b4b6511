use Rattle.std.proofs.Common.{◌≡◌, ◌++◌, ◌+◌, drop, false}
use Rattle.book_scope_plan.specs.WayTexts.{gap_lines}
use Rattle.scope_plan.specs.Facings.{facing_of}
use Rattle.scope_plan.proofs.gap.push_beside.Given as goal

abbrev pub invariant-loop-i : goal.invariant-loop-i
invariant-loop-i l =
    l.out.items ++ gap_lines (facing_of l.facing) l.gap l.told (l.i + 1) (drop l.i l.rows)
    ≡ l.fn.out.items ++ gap_lines (facing_of l.facing) l.gap false 1 l.rows
