use Rattle.law_lossless.proofs.Delivering.{delivers_all}
use Rattle.law_lossless.proofs.lossless.all_is_delivered.Goals as goal

pub returns : goal.returns
returns c = λ setup events fits tables f few. delivers_all setup fits tables events f few
