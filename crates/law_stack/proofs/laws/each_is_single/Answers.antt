use Rattle.law_stack.proofs.Single.{is_single}
use Rattle.law_stack.proofs.laws.each_is_single.Goals as goal

pub returns : goal.returns
returns c = is_single
