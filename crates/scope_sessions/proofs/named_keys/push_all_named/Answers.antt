use Rattle.std.proofs.Common.{◌++◌, arith}
use Rattle.toml.specs.View.{table_view}
use Rattle.book_keys.specs.Rows.{Table}
use Rattle.book_sessions.specs.NamedKeys.{by_rows, naming, retire_answer, retire_answers, retire_line, retire_lines}
use Rattle.scope_keys.specs.KeyFiles.{keys_at}
use Rattle.scope_sessions.proofs.NamedRows.{node_behind}
use Rattle.scope_sessions.proofs.named_keys.push_all_named.Goals as goal

pub loop-i-preserved : goal.loop-i-preserved
loop-i-preserved c =
    let keys = keys_at (table_view c.args.document.now) c.args.tables.now in
    let line_of = λ (t : Table). by_rows (retire_line (naming c.args.word.now keys) c.args.evidence.now t) 1 t.rows in
    let answer_of = λ (t : Table). by_rows (retire_answer (naming c.args.word.now keys) c.args.evidence.now t) 1 t.rows in
    record {
      lines = node_behind line_of c.loop-i.i c.args.tables.now c.node-table.result.now c.loop-i.out.items c.push_rows.new.out.items (c.args.out.now.items ++ retire_lines c.args.word.now keys c.args.evidence.now)
          (omega (arith, c.loop-i-test.true, c.nodes-i-end.ensures.value)) c.node-table.ensures c.loop-i.invariant.lines c.in_ok-push_rows.ensures.lines;
      answers = node_behind answer_of c.loop-i.i c.args.tables.now c.node-table.result.now c.loop-i.answers.items c.push_rows.new.answers.items (c.args.answers.now.items ++ retire_answers c.args.word.now keys c.args.evidence.now)
          (omega (arith, c.loop-i-test.true, c.nodes-i-end.ensures.value)) c.node-table.ensures c.loop-i.invariant.answers c.in_ok-push_rows.ensures.answers;
    }
