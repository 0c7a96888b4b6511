use Rattle.std.proofs.Common.{◌≡◌, ◌++◌, drop, map}
use Rattle.book_draw.specs.Folds.{line_of_left}
use Rattle.book_draw.specs.Times.{left_runs}
use Rattle.draw_session_rungs.proofs.left.push_left_lines.Given as goal

abbrev pub invariant-loop-run : goal.invariant-loop-run
invariant-loop-run l = l.lines.items ++ map line_of_left (drop l.run-index l.run-items) ≡ l.fn.lines.items ++ map line_of_left (left_runs l.fn.within l.fn.left)
