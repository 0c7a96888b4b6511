use Rattle.law_link.proofs.Entries.{as_made}
use Rattle.law_link.proofs.runs.what_was_made.Goals as goal

pub returns : goal.returns
returns c = λ setup events fits f. as_made setup fits events f
