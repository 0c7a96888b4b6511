use Rattle.law_shim.proofs.Asked.{after, next, stays}
use Rattle.law_shim.proofs.asking.asked_key_is_used.Goals as goal

pub returns-clause-next : goal.returns-clause-next
returns-clause-next c = next

pub returns-clause-after : goal.returns-clause-after
returns-clause-after c = after

pub returns-clause-stays : goal.returns-clause-stays
returns-clause-stays c = stays
