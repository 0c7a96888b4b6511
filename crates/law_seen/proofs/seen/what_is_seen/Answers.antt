use Rattle.law_seen.proofs.Relied.{summary_says_seen}
use Rattle.law_seen.proofs.seen.what_is_seen.Goals as goal

pub returns : goal.returns
returns c = λ setup events fits f. summary_says_seen setup fits events f
