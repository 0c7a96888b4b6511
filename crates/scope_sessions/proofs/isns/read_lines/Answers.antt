use Rattle.std.proofs.Common.{[]}
use Rattle.std.proofs.lemmas.Result.{err_from_is_err_and}
use Rattle.book_lines.specs.Said.{said_by}
use Rattle.book_sessions.specs.GivenLines.{given_isns_in}
use Rattle.scope_sessions.specs.Given.{given_from}
use Rattle.scope_sessions.proofs.GivenLaws.{line_given, line_refused, lines_given}
use Rattle.scope_sessions.proofs.isns.read_lines.Goals as goal

pub returns-in_err-isns : goal.returns-in_err-isns
returns-in_err-isns c =
    let p = err_from_is_err_and c.from_residual.result c.from_residual.ensures.1 in
    rw (p.1, p.2) (line_refused c.loop-line.given.items (record { number = c.in-Some.line.number; words = c.in-Some.line.words }) c.next.new.self c.loop-line.lines
    (given_from [] (said_by given_isns_in c.args.lines)) c.in-Some.ensures c.loop-line.invariant c.in_err-isns.field-0.0 c.in_err-isns.ensures)

pub loop-line-preserved : goal.loop-line-preserved
loop-line-preserved c =
    line_given c.loop-line.given.items (record { number = c.in-Some.line.number; words = c.in-Some.line.words }) c.next.new.self c.loop-line.lines
    (given_from [] (said_by given_isns_in c.args.lines)) c.in-Some.ensures c.loop-line.invariant c.in_ok-isns.isns c.push.new.self.items c.in_ok-isns.ensures c.in_ok-push.ensures.items

pub returns : goal.returns
returns c =
    lines_given c.loop-line.given.items c.loop-line.lines (given_from [] (said_by given_isns_in c.args.lines)) c.in_default.ensures c.loop-line.invariant
