use Rattle.law_seen.proofs.Relied.{acknowledges_received}
use Rattle.law_seen.proofs.seen.acknowledges_received.Goals as goal

pub returns : goal.returns
returns c = λ setup events fits f. acknowledges_received setup fits events f
