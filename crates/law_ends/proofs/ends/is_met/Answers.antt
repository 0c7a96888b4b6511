use Rattle.law_ends.proofs.Worked.{is_met}
use Rattle.law_ends.proofs.ends.is_met.Goals as goal

pub returns : goal.returns
returns c = is_met
