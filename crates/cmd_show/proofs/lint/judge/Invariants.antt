use Rattle.std.proofs.Common.{◌≡◌, [], false, length}
use Rattle.book_lines.specs.Said.{said_by}
use Rattle.book_cmd_link.specs.LintTexts.{lint_pair_of}
use Rattle.cmd_show.specs.Judgements.{judged_from}
use Rattle.cmd_show.proofs.lint.judge.Given as goal

abbrev pub invariant-loop-line : goal.invariant-loop-line
invariant-loop-line l =
    judged_from l.tables l.plan l.out.items l.has_misfit (said_by lint_pair_of l.lines)
    ≡ judged_from l.tables l.plan [] false (said_by lint_pair_of l.fn.lines)

abbrev pub decreases-loop-line : goal.decreases-loop-line
decreases-loop-line l = length l.lines
