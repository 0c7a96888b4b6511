use Rattle.book_plans.proofs.MarginLaws.{lead_greatest, lag_greatest}
use Rattle.book_plans.proofs.laws.margins_are_greatest.Goals as goal

pub returns-clause-lead : goal.returns-clause-lead
returns-clause-lead c = lead_greatest

pub returns-clause-lag : goal.returns-clause-lag
returns-clause-lag c = lag_greatest
