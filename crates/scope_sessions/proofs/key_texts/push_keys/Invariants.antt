use Rattle.std.proofs.Common.{◌≡◌, ◌++◌, drop}
use Rattle.std.specs.List.{flat_map}
use Rattle.toml.specs.View.{table_view}
use Rattle.book_sessions.specs.KeyLines.{key_lines}
use Rattle.scope_keys.specs.KeyFiles.{keys_at}
use Rattle.scope_sessions.proofs.key_texts.push_keys.Given as goal

abbrev pub invariant-loop-i : goal.invariant-loop-i
invariant-loop-i l = l.out.items ++ flat_map (λ t. key_lines (keys_at (table_view l.document) l.tables) l.evidence t 1 t.rows) (drop l.i l.tables) ≡ l.fn.out.items ++ flat_map (λ t. key_lines (keys_at (table_view l.document) l.tables) l.evidence t 1 t.rows) l.tables
