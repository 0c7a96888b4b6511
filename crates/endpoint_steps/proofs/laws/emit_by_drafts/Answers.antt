use Rattle.endpoint_steps.proofs.Drafting.{emit_by_drafts, resend_by_drafts, none_next, none_again}
use Rattle.endpoint_steps.proofs.laws.emit_by_drafts.Goals as goal

pub returns-clause-next : goal.returns-clause-next
returns-clause-next c = emit_by_drafts

pub returns-clause-again : goal.returns-clause-again
returns-clause-again c = resend_by_drafts

pub returns-clause-none : goal.returns-clause-none
returns-clause-none c = none_next

pub returns-clause-none_again : goal.returns-clause-none_again
returns-clause-none_again c = none_again
