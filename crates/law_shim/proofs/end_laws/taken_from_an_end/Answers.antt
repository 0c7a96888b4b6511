use Rattle.law_shim.proofs.Welcoming.{again, next}
use Rattle.law_shim.proofs.end_laws.taken_from_an_end.Goals as goal

pub returns-clause-next : goal.returns-clause-next
returns-clause-next c = next

pub returns-clause-again : goal.returns-clause-again
returns-clause-again c = again
