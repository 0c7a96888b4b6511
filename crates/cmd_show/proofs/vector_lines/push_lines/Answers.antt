use Rattle.std.proofs.Common.{arith, ap, length}
use Rattle.std.proofs.lemmas.Result.{err_from_is_err_and}
use Rattle.book_lines.specs.Said.{said_by}
use Rattle.book_cmd_check.specs.Vectors.{vector_of}
use Rattle.cmd_show.specs.Loops.{no_sums, sums_from}
use Rattle.cmd_show.proofs.VerifyLaws.{vector_refused, vector_summed, vectors_summed}
use Rattle.cmd_show.proofs.vector_lines.push_lines.Goals as goal

pub returns-in_err-vector : goal.returns-in_err-vector
returns-in_err-vector c =
    let p = err_from_is_err_and c.from_residual.result c.from_residual.ensures.1 in
    rw (p.1, p.2) (vector_refused (record { text = c.loop-line.out.items; count = c.loop-line.totals.count; differing = c.loop-line.totals.differing })
    (record { number = c.in-Some.line.number; words = c.in-Some.line.words }) c.next.new.self c.loop-line.lines
    (sums_from (no_sums c.args.out.now.items) (said_by vector_of c.args.lines.now)) c.in-Some.ensures c.loop-line.invariant.so_far c.in_err-vector.field-0.0 c.in_err-vector.ensures)

pub loop-line-preserved : goal.loop-line-preserved
loop-line-preserved c =
    record {
      so_far = vector_summed (record { text = c.loop-line.out.items; count = c.loop-line.totals.count; differing = c.loop-line.totals.differing })
          (record { number = c.in-Some.line.number; words = c.in-Some.line.words }) c.next.new.self c.loop-line.lines
          (sums_from (no_sums c.args.out.now.items) (said_by vector_of c.args.lines.now)) c.in-Some.ensures c.loop-line.invariant.so_far
          c.in_ok-vector.vector (record { text = c.push_line.new.out.items; count = c.one_more-totals.result.count; differing = c.one_more-totals.result.differing })
          c.in_ok-vector.ensures c.in_ok-push_line.ensures c.one_more-totals.ensures.count c.one_more-totals.ensures.differing;
      few = omega (arith, c.one_more-totals.ensures.count, c.loop-line.invariant.few, ap length c.in-Some.ensures);
      fewer = c.one_more-totals.ensures.fewer;
    }

pub returns : goal.returns
returns c = vectors_summed (record { text = c.loop-line.out.items; count = c.loop-line.totals.count; differing = c.loop-line.totals.differing }) c.loop-line.lines
    (sums_from (no_sums c.args.out.now.items) (said_by vector_of c.args.lines.now)) c.in_default.ensures c.loop-line.invariant.so_far
