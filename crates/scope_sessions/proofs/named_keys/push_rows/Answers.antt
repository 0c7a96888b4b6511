use Rattle.std.proofs.Common.{◌++◌}
use Rattle.toml.specs.View.{table_view}
use Rattle.book_sessions.specs.NamedKeys.{by_rows, naming, retire_answer, retire_line}
use Rattle.scope_keys.specs.KeyFiles.{keys_at}
use Rattle.scope_sessions.proofs.NamedRows.{row_behind}
use Rattle.scope_sessions.proofs.named_keys.push_rows.Goals as goal

pub loop-i-preserved : goal.loop-i-preserved
loop-i-preserved c =
    let keys = keys_at (table_view c.args.document.now) c.args.tables.now in
    let line_of = retire_line (naming c.args.word.now keys) c.args.evidence.now c.args.table.now in
    let answer_of = retire_answer (naming c.args.word.now keys) c.args.evidence.now c.args.table.now in
    let rows = c.entries-rows.result.now in
    record {
      lines = row_behind line_of c.loop-i.i rows c.index-rows-i.result c.loop-i.out.items c.push_named.new.out.items (c.args.out.now.items ++ by_rows line_of 1 rows)
          c.loop-i-test.true c.index-rows-i.is c.loop-i.invariant.lines c.in_ok-push_named.ensures.lines;
      answers = row_behind answer_of c.loop-i.i rows c.index-rows-i.result c.loop-i.answers.items c.push_named.new.answers.items (c.args.answers.now.items ++ by_rows answer_of 1 rows)
          c.loop-i-test.true c.index-rows-i.is c.loop-i.invariant.answers c.in_ok-push_named.ensures.answers;
    }
