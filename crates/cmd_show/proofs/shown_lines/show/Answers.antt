use Rattle.std.proofs.Common.{arith}
use Rattle.std.proofs.lemmas.Result.{err_from_is_err_and}
use Rattle.book_base.specs.Lines.{lines_of}
use Rattle.book_lines.specs.Lines.{saying_from}
use Rattle.cmd_show.proofs.TextLaws.{never_too_many}
use Rattle.text_lines.proofs.SaidLaws.{same_problem}
use Rattle.cmd_show.proofs.shown_lines.show.Goals as goal

pub returns-in_err-push_lines-clause-too_many : goal.returns-in_err-push_lines-clause-too_many
returns-in_err-push_lines-clause-too_many c =
    let p = err_from_is_err_and c.from_residual-in_err-push_lines.result c.from_residual-in_err-push_lines.ensures.1 in
    let few = never_too_many (saying_from 1 (lines_of c.args.text.now)) _ c.in_err-push_lines.field-0.0 (rw c.new.ensures at c.in_err-push_lines.ensures) in
    rw (p.1, p.2) ((λ is. absurd (few (same_problem _ _ is))), (λ many. absurd (omega (arith, c.in_ok-_count.ensures.counted, c.in_ok-_count.ensures.few, many))))
