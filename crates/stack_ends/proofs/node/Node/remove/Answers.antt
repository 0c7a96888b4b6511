use Rattle.stack_ends.proofs.NodeLaws.{drop_removes}
use Rattle.stack_ends.proofs.node.Node.remove.Goals as goal

pub returns-clause-removed : goal.returns-clause-removed
returns-clause-removed c =
    drop_removes c.self.inside.most c.self.inside.ends.entries c.remove.new.self.entries c.args.pair.now c.args.self.now c.self.view_is
    c.remove.result c.remove.ensures.updates.0 c.remove.ensures.value c.remove.ensures.len
