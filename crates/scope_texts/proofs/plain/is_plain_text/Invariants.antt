use Rattle.std.proofs.Common.{◌≡◌, ◌≤◌, drop, length}
use Rattle.std.specs.List.{list_all}
use Rattle.book_base.specs.Lines.{lines_of}
use Rattle.book_scope_texts.specs.Places.{is_plain_text, is_plain_line}
use Rattle.scope_texts.proofs.plain.is_plain_text.Given as goal

abbrev pub invariant-loop-cut : goal.invariant-loop-cut
invariant-loop-cut l = record {
  within : l.from ≤ length l.text;
  so_far : list_all is_plain_line (lines_of (drop l.from l.text)) ≡ is_plain_text l.text;
}

abbrev pub decreases-loop-cut : goal.decreases-loop-cut
decreases-loop-cut l = length (lines_of (drop l.from l.text))
