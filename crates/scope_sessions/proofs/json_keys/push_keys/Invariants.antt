use Rattle.std.proofs.Common.{◌≡◌, ◌++◌, drop, true}
use Rattle.std.specs.List.{flat_map}
use Rattle.toml.specs.View.{table_view}
use Rattle.page_sessions_json.specs.Json.{json_items}
use Rattle.page_sessions_json.specs.SessionJson.{rows_json}
use Rattle.scope_keys.specs.KeyFiles.{keys_at}
use Rattle.scope_sessions.proofs.json_keys.push_keys.Given as goal

abbrev pub invariant-loop-i : goal.invariant-loop-i
invariant-loop-i l = l.out.items ++ json_items l.first (flat_map (λ t. rows_json (keys_at (table_view l.document) l.tables) l.evidence t 1 t.rows) (drop l.i l.tables)) ≡ l.fn.out.items ++ json_items true (flat_map (λ t. rows_json (keys_at (table_view l.document) l.tables) l.evidence t 1 t.rows) l.tables)
