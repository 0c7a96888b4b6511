use Rattle.law_link.proofs.Partners.{partner_is_one, one_partner}
use Rattle.law_link.proofs.headline.one_partner.Goals as goal

pub returns-clause-found : goal.returns-clause-found
returns-clause-found c = partner_is_one

pub returns-clause-only : goal.returns-clause-only
returns-clause-only c = λ setup events fits f. one_partner setup fits events f
