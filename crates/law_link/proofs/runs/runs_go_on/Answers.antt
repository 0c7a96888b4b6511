use Rattle.law_link.proofs.Histories.{world_goes_on, outcomes_go_on, report_goes_on}
use Rattle.law_link.proofs.runs.runs_go_on.Goals as goal

pub returns-clause-world : goal.returns-clause-world
returns-clause-world c = world_goes_on

pub returns-clause-outcomes : goal.returns-clause-outcomes
returns-clause-outcomes c = outcomes_go_on

pub returns-clause-report : goal.returns-clause-report
returns-clause-report c = report_goes_on
