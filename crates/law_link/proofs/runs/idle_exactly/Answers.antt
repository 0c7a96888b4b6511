use Rattle.law_link.proofs.Idle.{send_idle, send_again_idle}
use Rattle.law_link.proofs.runs.idle_exactly.Goals as goal

pub returns-clause-send : goal.returns-clause-send
returns-clause-send c = λ setup events e s fits f lives. send_idle setup fits events f e s lives

pub returns-clause-resend : goal.returns-clause-resend
returns-clause-resend c = λ setup events e s fits f lives. send_again_idle setup fits events f e s lives
