use Rattle.std.proofs.Common.{◌≡◌, ◌+◌, ◌≤◌, length}
use Rattle.book_lines.specs.Said.{said_by}
use Rattle.book_cmd_check.specs.Vectors.{vector_of}
use Rattle.cmd_show.specs.Loops.{no_sums, sums_from}
use Rattle.cmd_show.proofs.vector_lines.push_lines.Given as goal

abbrev pub invariant-loop-line : goal.invariant-loop-line
invariant-loop-line l = record {
  so_far : sums_from (record { text = l.out.items; count = l.totals.count; differing = l.totals.differing }) (said_by vector_of l.lines)
      ≡ sums_from (no_sums l.fn.out.items) (said_by vector_of l.fn.lines);
  few : l.totals.count + length l.lines ≤ 20000;
  fewer : l.totals.differing ≤ l.totals.count;
}

abbrev pub decreases-loop-line : goal.decreases-loop-line
decreases-loop-line l = length l.lines
