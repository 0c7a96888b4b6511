use Rattle.law_seen.proofs.Carrying.{aligned_carries}
use Rattle.law_seen.proofs.runs.aligned_carries.Goals as goal

pub returns : goal.returns
returns c = λ plan setup fits tables aligned. aligned_carries plan setup fits tables aligned
