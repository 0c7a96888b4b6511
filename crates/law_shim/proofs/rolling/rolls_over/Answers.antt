use Rattle.law_shim.proofs.Tables.{to_a, to_b}
use Rattle.law_shim.proofs.rolling.rolls_over.Goals as goal

pub returns-clause-to_b : goal.returns-clause-to_b
returns-clause-to_b c = to_b

pub returns-clause-to_a : goal.returns-clause-to_a
returns-clause-to_a c = to_a
