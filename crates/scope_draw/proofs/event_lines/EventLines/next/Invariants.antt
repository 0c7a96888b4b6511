use Rattle.std.proofs.Common.{◌≡◌, ◌≤◌, drop, filter, length}
use Rattle.book_base.specs.Lines.{lines_of}
use Rattle.book_scope_run.specs.Echoes.{is_saying}
use Rattle.scope_draw.proofs.event_lines.EventLines.next.Given as goal

abbrev pub invariant-loop-cut : goal.invariant-loop-cut
invariant-loop-cut l = record {
  left : filter is_saying (lines_of (drop l.self-inside.from l.self-inside.text.now)) ≡ l.fn.self;
  within : l.self-inside.from ≤ length l.self-inside.text.now;
}

abbrev pub decreases-loop-cut : goal.decreases-loop-cut
decreases-loop-cut l = length (lines_of (drop l.self-inside.from l.self-inside.text.now))
