use Rattle.law_lossless.proofs.Beginning.{begins_in_step}
use Rattle.law_lossless.proofs.lossless.in_step_is_met.Goals as goal

pub returns : goal.returns
returns c = begins_in_step
