use Rattle.toml.specs.View.{table_view}
use Rattle.scope_keys.specs.KeyFiles.{keys_at}
use Rattle.scope_sessions.proofs.JsonItems.{key_done}
use Rattle.scope_sessions.proofs.json_keys.push_key.Goals as goal

pub returns : goal.returns
returns c =
    key_done (keys_at (table_view c.args.document.now) c.args.tables.now) c.args.evidence.now c.args.table.now c.args.row_number c.args.row.now c.last_carrying-last.result c.first_asking-asked.result c.may_go.result c.may_go_word-may.result.now c.in_ok-peers.peers
    c.args.out.now.items c.push_node.new.out.items c.push_ids.new.out.items c.push_told.new.out.items
    (rw (c.uses.ensures.value, c.from-number.ensures) at c.last_carrying-last.ensures) (rw c.from-number.ensures at c.first_asking-asked.ensures) (rw c.from-number.ensures at c.may_go.ensures) c.may_go_word-may.ensures c.in_ok-peers.ensures c.in_ok-push_node.ensures c.in_ok-push_ids.ensures c.in_ok-push_told.ensures
