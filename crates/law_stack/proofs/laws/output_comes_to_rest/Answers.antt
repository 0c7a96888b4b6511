use Rattle.law_stack.proofs.Ending.{output_ends}
use Rattle.law_stack.proofs.laws.output_comes_to_rest.Goals as goal

pub returns : goal.returns
returns c = output_ends
