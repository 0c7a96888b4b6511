use Rattle.std.proofs.Common.{◌≡◌, ◌++◌, ◌+◌, drop}
use Rattle.toml.specs.View.{table_view}
use Rattle.book_why.specs.Lacks.{lacks, rows_and_lacks}
use Rattle.scope_why.proofs.rows.push_rows_and_lacks.Given as goal

abbrev pub invariant-loop-i : goal.invariant-loop-i
invariant-loop-i l =
    l.out.items ++ rows_and_lacks (table_view l.document) l.table (lacks l.pair l.id l.now) (l.i + 1) (drop l.i l.rows)
    ≡ l.fn.out.items ++ rows_and_lacks (table_view l.document) l.table (lacks l.pair l.id l.now) 1 l.rows
