use Rattle.std.proofs.Common.{◌++◌}
use Rattle.toml.specs.View.{table_view}
use Rattle.book_sessions.specs.KeyLines.{key_lines}
use Rattle.scope_keys.specs.KeyFiles.{keys_at}
use Rattle.scope_sessions.proofs.KeyWords.{one_more_row}
use Rattle.scope_sessions.proofs.key_texts.push_rows.Goals as goal

pub loop-i-preserved : goal.loop-i-preserved
loop-i-preserved c =
    one_more_row (keys_at (table_view c.args.document.now) c.args.tables.now) c.args.evidence.now c.args.table.now c.loop-i.i c.entries-rows.result.now c.index-rows-i.result c.loop-i.out.items c.push_key.new.out.items
    (c.args.out.now.items ++ key_lines (keys_at (table_view c.args.document.now) c.args.tables.now) c.args.evidence.now c.args.table.now 1 c.entries-rows.result.now) c.loop-i-test.true c.index-rows-i.is c.loop-i.invariant c.in_ok-push_key.ensures
