use Rattle.std.proofs.Common.{◌≡◌, ◌++◌, ◌+◌, drop}
use Rattle.book_scope_plan.specs.WayTexts.{kept_lines}
use Rattle.scope_plan.specs.Facings.{facing_of}
use Rattle.scope_plan.proofs.gap.push_kept.Given as goal

abbrev pub invariant-loop-i : goal.invariant-loop-i
invariant-loop-i l =
    l.out.items ++ kept_lines (facing_of l.facing) l.gap (l.i + 1) (drop l.i l.rows)
    ≡ l.fn.out.items ++ kept_lines (facing_of l.facing) l.gap 1 l.rows
