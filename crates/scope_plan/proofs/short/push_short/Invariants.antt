use Rattle.std.proofs.Common.{◌≡◌, ◌++◌, ◌+◌, drop, false}
use Rattle.book_scope_plan.specs.WayTexts.{accepting_lines}
use Rattle.scope_plan.specs.Facings.{facing_of, sent_of}
use Rattle.scope_plan.proofs.short.push_short.Given as goal

abbrev pub invariant-loop-i : goal.invariant-loop-i
invariant-loop-i l =
    l.out.items ++ accepting_lines (facing_of l.facing) (sent_of l.sent) l.told (l.i + 1) (drop l.i l.rows)
    ≡ l.fn.out.items ++ accepting_lines (facing_of l.facing) (sent_of l.sent) false 1 l.rows
