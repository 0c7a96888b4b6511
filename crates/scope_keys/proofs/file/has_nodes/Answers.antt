use Rattle.scope_keys.proofs.FileLaws.{nodes_there}
use Rattle.scope_keys.proofs.file.has_nodes.Goals as goal

pub returns : goal.returns
returns c = rw c.nodes.ensures.value (nodes_there c.args.tables.now)
