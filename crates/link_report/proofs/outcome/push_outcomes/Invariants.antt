use Rattle.std.proofs.Common.{◌≡◌, ◌+◌, List, ◌++◌, drop}
use Rattle.book_link.specs.Outcomes as book
use Rattle.book_link.specs.Reports.{lines_from}
use Rattle.link_report.specs.Outcomes.{AreShown}
use Rattle.link_report.proofs.outcome.push_outcomes.Given as goal

abbrev pub invariant-loop-index : goal.invariant-loop-index
invariant-loop-index l =
    (told : List book.Outcome) → AreShown l.outcomes told
    → l.out.items ++ lines_from (l.index + 1) (drop l.index told) ≡ l.fn.out.items ++ lines_from 1 told
