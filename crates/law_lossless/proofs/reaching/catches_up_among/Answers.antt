use Rattle.law_lossless.proofs.Gaining.{catches_up_among}
use Rattle.law_lossless.proofs.reaching.catches_up_among.Goals as goal

pub returns : goal.returns
returns c = λ setup events fits tables f few. catches_up_among setup fits tables events f few
