use Rattle.law_stack.proofs.AtRest.{are_at_rest}
use Rattle.law_stack.proofs.Deadlines.{are_timely}
use Rattle.law_stack.proofs.laws.nothing_due_is_left.Goals as goal

pub returns : goal.returns
returns c = record { quiet = are_at_rest; timely = are_timely }
