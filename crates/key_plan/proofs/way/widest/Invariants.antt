use Rattle.std.proofs.Common.{◌≡◌, None, drop}
use Rattle.book_plans.specs.Margins.{widest}
use Rattle.key_plan.specs.Asked.{margin_by}
use Rattle.key_plan.proofs.way.widest.Given as goal

abbrev pub invariant-loop-other : goal.invariant-loop-other
invariant-loop-other l =
    widest (margin_by l.given l.pair l.row) l.best (drop l.other-index l.others) ≡ widest (margin_by l.given l.pair l.row) None l.others
