use Rattle.law_ends.proofs.Promising.{held_is_received}
use Rattle.law_ends.proofs.ends.acknowledged_was_received.Goals as goal

pub returns : goal.returns
returns c = λ setup most doings fits all fresh. held_is_received setup most doings fits all fresh
