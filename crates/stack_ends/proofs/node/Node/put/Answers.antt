use Rattle.stack_ends.proofs.NodeLaws.{put_adds}
use Rattle.stack_ends.proofs.node.Node.put.Goals as goal

pub returns-clause-added : goal.returns-clause-added
returns-clause-added c =
    put_adds c.self.inside.most c.self.inside.ends.entries c.insert.new.self.entries c.args.pair.now c.args.self.now c.self.view_is
    c.args.endpoint c.in_ok-insert.field-0 c.in_ok-insert.ensures.updates.0 c.in_ok-insert.ensures.old c.requires.apart c.in_ok-insert.ensures.len
