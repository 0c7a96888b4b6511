use Rattle.law_stack.proofs.Handed.{handed_well, taken_alike}
use Rattle.law_stack.proofs.laws.handed_is_taken_alike.Goals as goal

pub returns : goal.returns
returns c = record { well = handed_well; alike = taken_alike }
