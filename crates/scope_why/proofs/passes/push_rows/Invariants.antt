use Rattle.std.proofs.Common.{◌≡◌, ◌++◌, ◌+◌, drop}
use Rattle.book_why.specs.Changes.{row_changes}
use Rattle.scope_why.proofs.passes.push_rows.Given as goal

abbrev pub invariant-loop-i : goal.invariant-loop-i
invariant-loop-i l = l.out.items ++ row_changes l.node (l.i + 1) (drop l.i l.rows) ≡ l.fn.out.items ++ row_changes l.node 1 l.rows
