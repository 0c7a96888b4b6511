use Rattle.std.proofs.Common.{[]}
use Rattle.cmd_show.proofs.vector.cmac_of.Goals as goal

pub returns : goal.returns
returns c = c.finish.ensures c.args.key.now c.args.message.now (c.update.ensures c.args.key.now [] c.new-hasher.ensures)
