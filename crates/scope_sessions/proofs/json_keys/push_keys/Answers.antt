use Rattle.std.proofs.Common.{◌++◌, arith, true}
use Rattle.toml.specs.View.{table_view}
use Rattle.page_sessions_json.specs.Json.{json_items}
use Rattle.page_sessions_json.specs.SessionJson.{keys_json}
use Rattle.scope_keys.specs.KeyFiles.{keys_at}
use Rattle.scope_sessions.proofs.JsonItems.{keys_more}
use Rattle.scope_sessions.proofs.json_keys.push_keys.Goals as goal

pub loop-i-preserved : goal.loop-i-preserved
loop-i-preserved c =
    keys_more (keys_at (table_view c.args.document.now) c.args.tables.now) c.args.evidence.now c.loop-i.i c.args.tables.now c.node-table.result.now c.loop-i.out.items c.push_rows.new.out.items (c.args.out.now.items ++ json_items true (keys_json (keys_at (table_view c.args.document.now) c.args.tables.now) c.args.evidence.now)) c.loop-i.first c.in_ok-still.still
    (omega (arith, c.loop-i-test.true, c.nodes-i-end.ensures.value)) c.node-table.ensures c.loop-i.invariant c.in_ok-still.ensures
