use Rattle.std.proofs.Common.{◌≡◌, ◌++◌, ◌+◌, drop}
use Rattle.toml.specs.View.{table_view}
use Rattle.book_sessions.specs.NamedKeys.{by_rows, naming, retire_answer, retire_line}
use Rattle.scope_keys.specs.KeyFiles.{keys_at}
use Rattle.scope_sessions.proofs.named_keys.push_rows.Given as goal

abbrev pub invariant-loop-i : goal.invariant-loop-i
invariant-loop-i l = record {
  lines : l.out.items ++ by_rows (retire_line (naming l.word (keys_at (table_view l.document) l.tables)) l.evidence l.table) (l.i + 1) (drop l.i l.rows)
      ≡ l.fn.out.items ++ by_rows (retire_line (naming l.word (keys_at (table_view l.document) l.tables)) l.evidence l.table) 1 l.rows;
  answers : l.answers.items ++ by_rows (retire_answer (naming l.word (keys_at (table_view l.document) l.tables)) l.evidence l.table) (l.i + 1) (drop l.i l.rows)
      ≡ l.fn.answers.items ++ by_rows (retire_answer (naming l.word (keys_at (table_view l.document) l.tables)) l.evidence l.table) 1 l.rows;
}
