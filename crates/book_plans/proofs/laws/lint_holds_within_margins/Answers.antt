use Rattle.book_plans.proofs.MarginLaws.{lead_judged, lag_judged}
use Rattle.book_plans.proofs.laws.lint_holds_within_margins.Goals as goal

pub returns-clause-lead : goal.returns-clause-lead
returns-clause-lead c = lead_judged

pub returns-clause-lag : goal.returns-clause-lag
returns-clause-lag c = lag_judged
