use Rattle.law_node.proofs.Runs.{each_alone}
use Rattle.law_node.proofs.laws.each_is_alone.Goals as goal

pub returns : goal.returns
returns c = each_alone
