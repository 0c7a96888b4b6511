use Rattle.law_keys.proofs.Telling.{longer_mends, over_gap_mends, shorter_mends}
use Rattle.law_keys.proofs.plan_laws.told_ways_mend.Goals as goal

pub returns-clause-shorter : goal.returns-clause-shorter
returns-clause-shorter c = shorter_mends

pub returns-clause-longer : goal.returns-clause-longer
returns-clause-longer c = longer_mends

pub returns-clause-over_gap : goal.returns-clause-over_gap
returns-clause-over_gap c = over_gap_mends
