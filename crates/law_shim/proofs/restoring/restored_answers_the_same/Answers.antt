use Rattle.law_shim.proofs.Behind.{begins, leaving}
use Rattle.law_shim.proofs.Hearing.{arriving}
use Rattle.law_shim.proofs.restoring.restored_answers_the_same.Goals as goal

pub returns-clause-begins : goal.returns-clause-begins
returns-clause-begins c = begins

pub returns-clause-leaving : goal.returns-clause-leaving
returns-clause-leaving c = leaving

pub returns-clause-arriving : goal.returns-clause-arriving
returns-clause-arriving c = arriving
