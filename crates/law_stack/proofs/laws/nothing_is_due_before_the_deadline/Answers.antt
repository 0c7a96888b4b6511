use Rattle.law_stack.proofs.Sleeping.{rests_until}
use Rattle.law_stack.proofs.laws.nothing_is_due_before_the_deadline.Goals as goal

pub returns : goal.returns
returns c = rests_until
