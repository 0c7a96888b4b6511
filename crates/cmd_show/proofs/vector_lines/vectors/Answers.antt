use Rattle.std.proofs.Common.{arith}
use Rattle.std.proofs.lemmas.Result.{err_from_is_err_and}
use Rattle.book_base.specs.Lines.{lines_of}
use Rattle.book_lines.specs.Lines.{saying_from}
use Rattle.book_lines.proofs.SayingLaws.{saying_length}
use Rattle.text_lines.proofs.SaidLaws.{same_problem}
use Rattle.cmd_show.proofs.VerifyLaws.{never_too_many}
use Rattle.cmd_show.proofs.vector_lines.vectors.Goals as goal

pub push_lines-requires : goal.push_lines-requires
push_lines-requires c = rw c.new.ensures (omega (arith, saying_length 1 (lines_of c.args.text.now), c.in_ok-_count.ensures.counted, c.in_ok-_count.ensures.few))

pub returns-in_err-totals-clause-too_many : goal.returns-in_err-totals-clause-too_many
returns-in_err-totals-clause-too_many c =
    let p = err_from_is_err_and c.from_residual-in_err-totals.result c.from_residual-in_err-totals.ensures.1 in
    let few = never_too_many (saying_from 1 (lines_of c.args.text.now)) _ c.in_err-totals.field-0.0 (rw c.new.ensures at c.in_err-totals.ensures) in
    rw (p.1, p.2) ((λ is. absurd (few (same_problem _ _ is))), (λ many. absurd (omega (arith, c.in_ok-_count.ensures.counted, c.in_ok-_count.ensures.few, many))))
