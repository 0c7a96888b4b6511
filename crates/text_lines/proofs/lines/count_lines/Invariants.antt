use Rattle.std.proofs.Common.{◌≡◌, ◌+◌, ◌≤◌, length}
use Rattle.book_base.specs.Lines.{lines_of}
use Rattle.text_lines.proofs.lines.count_lines.Given as goal

abbrev pub invariant-loop-count : goal.invariant-loop-count
invariant-loop-count l = (l.count + length l.lines ≡ length (lines_of l.text)) × (l.count ≤ 20000)

abbrev pub decreases-loop-count : goal.decreases-loop-count
decreases-loop-count l = length l.lines
