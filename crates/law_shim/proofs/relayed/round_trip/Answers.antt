use Rattle.law_shim.proofs.Whole.{comes_back}
use Rattle.law_shim.proofs.relayed.round_trip.Goals as goal

pub returns : goal.returns
returns c = comes_back
