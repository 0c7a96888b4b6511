use Rattle.std.proofs.Common.{◌≡◌, ◌+◌, ◌<◌, ◌^◌, length}
use Rattle.book_lines.specs.Lines.{saying_from}
use Rattle.text_lines.proofs.said_lines.SayingLines.next.Given as goal

abbrev pub invariant-loop-line : goal.invariant-loop-line
invariant-loop-line l = record {
  left : saying_from (l.self-inside.number + 1) l.self-inside.lines ≡ l.fn.self;
  small : l.self-inside.number + length l.self-inside.lines < 2 ^ 32;
}

abbrev pub decreases-loop-line : goal.decreases-loop-line
decreases-loop-line l = length l.self-inside.lines
