use Rattle.law_progress.proofs.Waiting.{waits_resend}
use Rattle.law_progress.proofs.waits.waits_resend.Goals as goal

pub returns : goal.returns
returns c = λ setup events. waits_resend setup events
