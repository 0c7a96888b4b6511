use Rattle.std.proofs.Common.{◌≡◌, ◌++◌, ◌+◌, drop}
use Rattle.toml.specs.View.{table_view}
use Rattle.book_sessions.specs.KeyLines.{key_lines}
use Rattle.scope_keys.specs.KeyFiles.{keys_at}
use Rattle.scope_sessions.proofs.key_texts.push_rows.Given as goal

abbrev pub invariant-loop-i : goal.invariant-loop-i
invariant-loop-i l = l.out.items ++ key_lines (keys_at (table_view l.document) l.tables) l.evidence l.table (l.i + 1) (drop l.i l.rows) ≡ l.fn.out.items ++ key_lines (keys_at (table_view l.document) l.tables) l.evidence l.table 1 l.rows
