use Rattle.std.proofs.Common.{◌≡◌, length}
use Rattle.book_lines.specs.Said.{said_by}
use Rattle.cmd_show.specs.Loops.{shown_from}
use Rattle.book_cmd_check.specs.Show.{bytes_of_line}
use Rattle.cmd_show.proofs.shown_lines.push_lines.Given as goal

abbrev pub invariant-loop-line : goal.invariant-loop-line
invariant-loop-line l = shown_from l.out.items (said_by bytes_of_line l.lines) ≡ shown_from l.fn.out.items (said_by bytes_of_line l.fn.lines)

abbrev pub decreases-loop-line : goal.decreases-loop-line
decreases-loop-line l = length l.lines
