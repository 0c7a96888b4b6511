use Rattle.law_link.proofs.Histories.{nothing_is_unmade}
use Rattle.law_link.proofs.runs.nothing_is_unmade.Goals as goal

pub returns : goal.returns
returns c = nothing_is_unmade
