use Rattle.law_shim.proofs.Tables.{at_a, at_b}
use Rattle.law_shim.proofs.rolling.never_keyless.Goals as goal

pub returns-clause-at_a : goal.returns-clause-at_a
returns-clause-at_a c = at_a

pub returns-clause-at_b : goal.returns-clause-at_b
returns-clause-at_b c = at_b
