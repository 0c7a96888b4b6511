use Rattle.law_link.proofs.Prefix.{delivers_in_order}
use Rattle.law_link.proofs.headline.delivers_in_order.Goals as goal

pub returns : goal.returns
returns c = λ setup events fits f. delivers_in_order setup fits events f
