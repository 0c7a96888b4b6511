use Rattle.book_scope_plan.proofs.GoodLaws.{good_text, good_lead, good_lag}
use Rattle.book_scope_plan.proofs.laws.good_plans_say_aligned.Goals as goal

pub returns-clause-text : goal.returns-clause-text
returns-clause-text c = good_text

pub returns-clause-lead : goal.returns-clause-lead
returns-clause-lead c = good_lead

pub returns-clause-lag : goal.returns-clause-lag
returns-clause-lag c = good_lag
