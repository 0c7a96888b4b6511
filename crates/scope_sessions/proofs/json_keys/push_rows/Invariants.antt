use Rattle.std.proofs.Common.{◌≡◌, ◌++◌, ◌+◌, ℕ, List, drop}
use Rattle.toml.specs.View.{table_view}
use Rattle.page_sessions_json.specs.Json.{json_items}
use Rattle.page_sessions_json.specs.SessionJson.{rows_json}
use Rattle.scope_keys.specs.KeyFiles.{keys_at}
use Rattle.scope_sessions.proofs.json_keys.push_rows.Given as goal

abbrev pub invariant-loop-i : goal.invariant-loop-i
invariant-loop-i l = (others : List (List ℕ)) → l.out.items ++ json_items l.still (rows_json (keys_at (table_view l.document) l.tables) l.evidence l.table (l.i + 1) (drop l.i l.rows) ++ others) ≡ l.fn.out.items ++ json_items l.first (rows_json (keys_at (table_view l.document) l.tables) l.evidence l.table 1 l.rows ++ others)
