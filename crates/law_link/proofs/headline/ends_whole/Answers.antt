use Rattle.law_link.proofs.Prefix.{ends_whole, shows_ends}
use Rattle.law_link.proofs.Took.{took_from}
use Rattle.law_link.proofs.headline.ends_whole.Goals as goal

pub returns-clause-reached : goal.returns-clause-reached
returns-clause-reached c = λ setup events fits f. ends_whole setup fits events f

pub returns-clause-shown : goal.returns-clause-shown
returns-clause-shown c = λ setup events fits f. shows_ends setup fits events f

pub returns-clause-told : goal.returns-clause-told
returns-clause-told c = took_from
