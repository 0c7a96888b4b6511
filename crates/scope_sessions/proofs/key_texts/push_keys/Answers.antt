use Rattle.std.proofs.Common.{◌++◌, arith}
use Rattle.toml.specs.View.{table_view}
use Rattle.book_sessions.specs.KeyLines.{keys_lines}
use Rattle.scope_keys.specs.KeyFiles.{keys_at}
use Rattle.scope_sessions.proofs.KeyWords.{one_more_node}
use Rattle.scope_sessions.proofs.key_texts.push_keys.Goals as goal

pub loop-i-preserved : goal.loop-i-preserved
loop-i-preserved c =
    one_more_node (keys_at (table_view c.args.document.now) c.args.tables.now) c.args.evidence.now c.loop-i.i c.args.tables.now c.node-table.result.now c.loop-i.out.items c.push_rows.new.out.items (c.args.out.now.items ++ keys_lines (keys_at (table_view c.args.document.now) c.args.tables.now) c.args.evidence.now)
    (omega (arith, c.loop-i-test.true, c.nodes-i-end.ensures.value)) c.node-table.ensures c.loop-i.invariant c.in_ok-push_rows.ensures
