use Rattle.std.proofs.Common.{◌≡◌, ◌++◌, drop}
use Rattle.std.specs.List.{flat_map}
use Rattle.book_why.specs.Changes.{passes_changed}
use Rattle.scope_why.specs.MacsViews.{both_view, kept, suspect_view}
use Rattle.scope_why.proofs.passes.push_kept.Given as goal

abbrev pub invariant-loop-change : goal.invariant-loop-change
invariant-loop-change l =
    l.out.items ++ flat_map (kept (passes_changed (both_view l.both) (suspect_view l.suspect))) (drop l.change-index l.all)
    ≡ l.fn.out.items ++ flat_map (kept (passes_changed (both_view l.both) (suspect_view l.suspect))) l.all
