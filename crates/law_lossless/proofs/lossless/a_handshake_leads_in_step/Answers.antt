use Rattle.law_lossless.proofs.Handshaking.{meets_in_step}
use Rattle.law_lossless.proofs.lossless.a_handshake_leads_in_step.Goals as goal

pub returns : goal.returns
returns c = meets_in_step
