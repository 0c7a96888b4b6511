use Rattle.endpoint_steps.proofs.Arriving.{by_steps}
use Rattle.endpoint_steps.proofs.laws.arrivals_by_steps.Goals as goal

pub returns : goal.returns
returns c = by_steps
