use Rattle.std.proofs.Common.{arith}
use Rattle.book_lines.specs.Lines.{saying_lines}
use Rattle.cmd_show.proofs.JudgedLaws.{never_too_many}
use Rattle.cmd_show.proofs.lint.lint_lines.Goals as goal

pub returns-clause-too_many : goal.returns-clause-too_many
returns-clause-too_many c =
    let few = never_too_many c.args.tables.now c.args.plan c.judge.result (saying_lines c.args.input.now) (rw c.new.ensures at c.judge.ensures) in
    ((λ is. absurd (few is)), (λ many. absurd (omega (arith, c.in_ok-_count.ensures.counted, c.in_ok-_count.ensures.few, many))))
