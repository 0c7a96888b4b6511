use Rattle.law_seen.proofs.Relied.{is_reliable}
use Rattle.law_seen.proofs.seen.is_reliable.Goals as goal

pub returns : goal.returns
returns c = λ setup events fits f. is_reliable setup fits events f
