use Rattle.std.proofs.Common.{◌∙◌, ◌||◌, not, [], false, ap}
use Rattle.std.proofs.lemmas.Result.{err_from_is_err_and}
use Rattle.book_lines.specs.Said.{said_by}
use Rattle.book_cmd_link.specs.LintTexts.{lint_pair_of, is_aligned}
use Rattle.cmd_show.specs.Judgements.{judged_from}
use Rattle.cmd_show.proofs.JudgedLaws.{line_judged, line_refused, lines_judged}
use Rattle.cmd_show.proofs.lint.judge.Goals as goal

pub returns-in_err-pair : goal.returns-in_err-pair
returns-in_err-pair c =
    let p = err_from_is_err_and c.from_residual.result c.from_residual.ensures.1 in
    rw (p.1, p.2) (line_refused c.args.tables.now c.args.plan c.loop-line.out.items c.loop-line.has_misfit
    (record { number = c.in-Some.line.number; words = c.in-Some.line.words }) c.next.new.self c.loop-line.lines
    (judged_from c.args.tables.now c.args.plan [] false (said_by lint_pair_of c.args.lines)) c.in-Some.ensures
    c.loop-line.invariant c.in_err-pair.field-0.0 c.in_err-pair.ensures)

pub loop-line-preserved : goal.loop-line-preserved
loop-line-preserved c =
    line_judged c.args.tables.now c.args.plan c.loop-line.out.items c.loop-line.has_misfit
    (record { number = c.in-Some.line.number; words = c.in-Some.line.words }) c.next.new.self c.loop-line.lines
    (judged_from c.args.tables.now c.args.plan [] false (said_by lint_pair_of c.args.lines)) c.in-Some.ensures c.loop-line.invariant
    c.in_ok-pair.pair c.push_line.new.out.items _ c.in_ok-pair.ensures (rw c.lint-answer.ensures.answer at c.in_ok-push_line.ensures)
    (ap (λ b. c.loop-line.has_misfit || not b) (c.is_aligned.ensures ∙ ap is_aligned c.lint-answer.ensures.answer))

pub returns : goal.returns
returns c =
    rw c.from_vec.ensures (lines_judged c.args.tables.now c.args.plan c.loop-line.out.items c.loop-line.has_misfit c.loop-line.lines
    (judged_from c.args.tables.now c.args.plan [] false (said_by lint_pair_of c.args.lines)) c.in_default.ensures c.loop-line.invariant)
