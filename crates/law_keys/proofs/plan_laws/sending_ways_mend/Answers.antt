use Rattle.law_keys.proofs.Mending.{sends_at_a, sends_at_b}
use Rattle.law_keys.proofs.plan_laws.sending_ways_mend.Goals as goal

pub returns-clause-at_a : goal.returns-clause-at_a
returns-clause-at_a c = sends_at_a

pub returns-clause-at_b : goal.returns-clause-at_b
returns-clause-at_b c = sends_at_b
