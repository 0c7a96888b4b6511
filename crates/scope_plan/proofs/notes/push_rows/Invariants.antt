use Rattle.std.proofs.Common.{◌≡◌, ◌++◌, ◌+◌, drop}
use Rattle.book_scope_plan.specs.Notes.{rows_notes}
use Rattle.scope_plan.specs.Facings.{facing_of}
use Rattle.scope_plan.proofs.notes.push_rows.Given as goal

abbrev pub invariant-loop-i : goal.invariant-loop-i
invariant-loop-i l =
    l.out.items ++ rows_notes (facing_of l.facing) (l.i + 1) (drop l.i l.rows)
    ≡ l.fn.out.items ++ rows_notes (facing_of l.facing) 1 l.rows
