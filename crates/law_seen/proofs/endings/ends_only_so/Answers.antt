use Rattle.law_seen.proofs.Ending.{ends_only_so}
use Rattle.law_seen.proofs.endings.ends_only_so.Goals as goal

pub returns : goal.returns
returns c = λ setup events event fits f one. ends_only_so setup fits events event f one
