use Rattle.law_keys.proofs.Mending.{accepts_at_a, accepts_at_b}
use Rattle.law_keys.proofs.plan_laws.accepting_ways_mend.Goals as goal

pub returns-clause-at_a : goal.returns-clause-at_a
returns-clause-at_a c = accepts_at_a

pub returns-clause-at_b : goal.returns-clause-at_b
returns-clause-at_b c = accepts_at_b
