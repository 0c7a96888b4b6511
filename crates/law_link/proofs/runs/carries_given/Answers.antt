use Rattle.law_link.proofs.Entries.{carries_given}
use Rattle.law_link.proofs.runs.carries_given.Goals as goal

pub returns : goal.returns
returns c = λ setup events fits f. carries_given setup fits events f
