use Rattle.law_progress.proofs.Beginning.{begins_up}
use Rattle.law_progress.proofs.progress.is_met.Goals as goal

pub returns : goal.returns
returns c = begins_up
