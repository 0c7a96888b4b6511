use Rattle.std.proofs.Common.{◌∙◌, ap}
use Rattle.toml.specs.View.{table_view}
use Rattle.book_sessions.specs.KeyLines.{last_of}
use Rattle.book_sessions.specs.Retiring.{carries_row}
use Rattle.scope_keys.specs.KeyFiles.{keys_at}
use Rattle.scope_sessions.proofs.KeyWords.{key_found}
use Rattle.scope_sessions.proofs.key_texts.push_key.Goals as goal

pub returns : goal.returns
returns c =
    key_found c.push_obstacles.result (keys_at (table_view c.args.document.now) c.args.tables.now) c.args.evidence.now c.args.table.now c.args.row_number c.args.row.now c.last_carrying-last.result c.first_asking-asked.result c.may_go-may.result c.in_ok-peers.peers c.args.out.now.items c.push_found.new.out.items c.push_obstacles.new.out.items
    (rw (c.uses.ensures.value, c.from-number.ensures) at c.last_carrying-last.ensures) (rw c.from-number.ensures at c.first_asking-asked.ensures) (rw c.from-number.ensures at c.may_go-may.ensures) c.in_ok-peers.ensures c.in_ok-push_found.ensures
    (rw c.from-number.ensures at c.push_obstacles.ensures)
