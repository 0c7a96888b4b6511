use Rattle.law_shim.proofs.RelayedNumbers.{one_number}
use Rattle.law_shim.proofs.relayed.no_laps.Goals as goal

pub returns : goal.returns
returns c = one_number
