use Rattle.law_shim.proofs.Passing.{goes_through}
use Rattle.law_shim.proofs.end_laws.passes_at_an_end.Goals as goal

pub returns : goal.returns
returns c = goes_through
