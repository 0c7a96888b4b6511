use Rattle.law_ends.proofs.Single.{is_single_at_its_rows}
use Rattle.law_ends.proofs.connections.each_is_single_at_its_rows.Goals as goal

pub returns : goal.returns
returns c = is_single_at_its_rows
