use Rattle.law_link.proofs.Prefix.{acknowledges, acknowledged_was_received}
use Rattle.law_link.proofs.headline.acknowledges.Goals as goal

pub returns-clause-kept : goal.returns-clause-kept
returns-clause-kept c = λ setup events fits f. acknowledges setup fits events f

pub returns-clause-received : goal.returns-clause-received
returns-clause-received c = λ setup events fits f. acknowledged_was_received setup fits events f
