use Rattle.law_progress.proofs.Connecting.{connects}
use Rattle.law_progress.proofs.progress.connects.Goals as goal

pub returns : goal.returns
returns c = λ setup events fits tables f. connects setup fits tables events f
