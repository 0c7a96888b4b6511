use Rattle.book_why.specs.Changes.{passes_changed}
use Rattle.scope_why.specs.MacsViews.{both_view, suspect_view}
use Rattle.scope_why.proofs.Keeping.{kept_all}
use Rattle.scope_why.proofs.passes.push_filtered.Goals as goal

pub returns : goal.returns
returns c =
    rw (kept_all (passes_changed (both_view c.args.both.now) (suspect_view c.args.suspect.now)) c.args.all.now) at c.push_kept.ensures
