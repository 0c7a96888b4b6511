use Rattle.book_plans.proofs.FindingLaws.{widened_outlasts}
use Rattle.book_plans.proofs.laws.widened_rows_outlast.Goals as goal

pub returns : goal.returns
returns c = widened_outlasts
