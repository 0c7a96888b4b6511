use Rattle.std.proofs.lemmas.Result.{err_from_is_err_and}
use Rattle.book_lines.specs.Said.{said_by}
use Rattle.cmd_show.specs.Loops.{shown_from}
use Rattle.book_cmd_check.specs.Show.{bytes_of_line}
use Rattle.cmd_show.proofs.TextLaws.{line_refused, line_shown, lines_shown}
use Rattle.cmd_show.proofs.shown_lines.push_lines.Goals as goal

pub returns-in_err-bytes : goal.returns-in_err-bytes
returns-in_err-bytes c =
    let p = err_from_is_err_and c.from_residual.result c.from_residual.ensures.1 in
    rw (p.1, p.2) (line_refused c.loop-line.out.items (record { number = c.in-Some.line.number; words = c.in-Some.line.words }) c.next.new.self c.loop-line.lines
    (shown_from c.args.out.now.items (said_by bytes_of_line c.args.lines.now)) c.in-Some.ensures c.loop-line.invariant c.in_err-bytes.field-0.0 c.in_err-bytes.ensures)

pub loop-line-preserved : goal.loop-line-preserved
loop-line-preserved c =
    line_shown c.loop-line.out.items (record { number = c.in-Some.line.number; words = c.in-Some.line.words }) c.next.new.self c.loop-line.lines
    (shown_from c.args.out.now.items (said_by bytes_of_line c.args.lines.now)) c.in-Some.ensures c.loop-line.invariant
    c.in_ok-bytes.bytes c.push_shown.new.out.items c.in_ok-bytes.ensures (rw c.as_slice.ensures at c.in_ok-push_shown.ensures)

pub returns : goal.returns
returns c = lines_shown c.loop-line.out.items c.loop-line.lines (shown_from c.args.out.now.items (said_by bytes_of_line c.args.lines.now)) c.in_default.ensures c.loop-line.invariant
