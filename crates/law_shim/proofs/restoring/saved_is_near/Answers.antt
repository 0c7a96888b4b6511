use Rattle.law_shim.proofs.Growing.{goes_on}
use Rattle.law_shim.proofs.restoring.saved_is_near.Goals as goal

pub returns : goal.returns
returns c = goes_on
