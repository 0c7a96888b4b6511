use Rattle.law_link.proofs.Receiving.{receives_given}
use Rattle.law_link.proofs.headline.receives_given.Goals as goal

pub returns : goal.returns
returns c = λ setup events fits f. receives_given setup fits events f
