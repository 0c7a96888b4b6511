use Rattle.law_lossless.proofs.Delivering.{keeps_step}
use Rattle.law_lossless.proofs.lossless.step_is_kept.Goals as goal

pub returns : goal.returns
returns c = λ setup events fits tables f few. keeps_step setup fits tables events f few
