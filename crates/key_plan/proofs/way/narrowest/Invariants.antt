use Rattle.std.proofs.Common.{◌≡◌, Some, drop}
use Rattle.book_plans.specs.declared.margin.Margin.TheVariants.{Any}
use Rattle.book_plans.specs.Margins.{narrowest}
use Rattle.key_plan.specs.Asked.{margin_of_row}
use Rattle.key_plan.proofs.way.narrowest.Given as goal

abbrev pub invariant-loop-row : goal.invariant-loop-row
invariant-loop-row l =
    narrowest (margin_of_row l.given l.others l.pair) l.least (drop l.row-index l.rows) ≡ narrowest (margin_of_row l.given l.others l.pair) (Some Any) l.rows
