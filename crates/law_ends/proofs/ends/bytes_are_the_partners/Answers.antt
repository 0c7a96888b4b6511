use Rattle.law_ends.proofs.Promising.{held_is_partners}
use Rattle.law_ends.proofs.ends.bytes_are_the_partners.Goals as goal

pub returns : goal.returns
returns c = λ setup most doings fits all fresh. held_is_partners setup most doings fits all fresh
