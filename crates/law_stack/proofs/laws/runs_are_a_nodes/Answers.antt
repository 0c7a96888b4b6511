use Rattle.law_stack.proofs.Runs.{is_node_run, is_ruled_run}
use Rattle.law_stack.proofs.laws.runs_are_a_nodes.Goals as goal

pub returns : goal.returns
returns c = record { run = is_node_run; ruled = is_ruled_run }
