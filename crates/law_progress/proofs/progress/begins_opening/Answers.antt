use Rattle.law_progress.proofs.Beginning.{begun_opening}
use Rattle.law_progress.proofs.progress.begins_opening.Goals as goal

pub returns : goal.returns
returns c = begun_opening
