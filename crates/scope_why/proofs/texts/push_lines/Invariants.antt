use Rattle.std.proofs.Common.{◌≡◌, ◌++◌, drop}
use Rattle.std.specs.List.{flat_map}
use Rattle.book_why.specs.ChangeTexts.{passing_line}
use Rattle.scope_why.specs.MacsViews.{both_view, suspect_view}
use Rattle.scope_why.proofs.texts.push_lines.Given as goal

abbrev pub invariant-loop-change : goal.invariant-loop-change
invariant-loop-change l =
    l.out.items ++ flat_map (passing_line (both_view l.both) (suspect_view l.suspect)) (drop l.change-index l.passing)
    ≡ l.fn.out.items ++ flat_map (passing_line (both_view l.both) (suspect_view l.suspect)) l.passing
