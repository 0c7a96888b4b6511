use Rattle.law_lossless.proofs.Gaining.{never_stuck_among}
use Rattle.law_lossless.proofs.reaching.never_stuck_among.Goals as goal

pub returns : goal.returns
returns c = λ setup events fits tables f few. never_stuck_among setup fits tables events f few
