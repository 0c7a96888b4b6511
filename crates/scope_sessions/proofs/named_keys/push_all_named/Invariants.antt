use Rattle.std.proofs.Common.{◌≡◌, ◌++◌, drop}
use Rattle.std.specs.List.{flat_map}
use Rattle.toml.specs.View.{table_view}
use Rattle.book_sessions.specs.NamedKeys.{by_rows, naming, retire_answer, retire_line}
use Rattle.scope_keys.specs.KeyFiles.{keys_at}
use Rattle.scope_sessions.proofs.named_keys.push_all_named.Given as goal

abbrev pub invariant-loop-i : goal.invariant-loop-i
invariant-loop-i l = record {
  lines : l.out.items ++ flat_map (λ t. by_rows (retire_line (naming l.word (keys_at (table_view l.document) l.tables)) l.evidence t) 1 t.rows) (drop l.i l.tables)
      ≡ l.fn.out.items ++ flat_map (λ t. by_rows (retire_line (naming l.word (keys_at (table_view l.document) l.tables)) l.evidence t) 1 t.rows) l.tables;
  answers : l.answers.items ++ flat_map (λ t. by_rows (retire_answer (naming l.word (keys_at (table_view l.document) l.tables)) l.evidence t) 1 t.rows) (drop l.i l.tables)
      ≡ l.fn.answers.items ++ flat_map (λ t. by_rows (retire_answer (naming l.word (keys_at (table_view l.document) l.tables)) l.evidence t) 1 t.rows) l.tables;
}
