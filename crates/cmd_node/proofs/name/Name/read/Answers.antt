use Rattle.cmd_node.proofs.NameLaws.{named_by}
use Rattle.cmd_node.proofs.name.Name.read.Goals as goal

pub returns : goal.returns
returns c = named_by c.args.word.now c.first_named.result c.first_named.ensures
