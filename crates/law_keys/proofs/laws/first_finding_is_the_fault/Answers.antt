use Rattle.law_keys.proofs.FileFaults.{first_is_fault}
use Rattle.law_keys.proofs.laws.first_finding_is_the_fault.Goals as goal

pub returns : goal.returns
returns c = first_is_fault
