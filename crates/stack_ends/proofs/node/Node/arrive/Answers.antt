use Rattle.std.proofs.Common.{sym, subst}
use Rattle.book_segments.specs.Segments.{Reading}
use Rattle.stack_ends.specs.EndsArrivals.{Comes}
use Rattle.stack_ends.specs.EndsCosts.{CostsRead}
use Rattle.stack_ends.proofs.node.Node.arrive.Goals as goal

pub returns-clause-comes : goal.returns-clause-comes
returns-clause-comes g c =
    subst (λ (r : Reading). Comes c.args.table.now.rows c.args.now c.args.self.now c.hear_datagram.new.self c.hear_datagram.result r) (sym c.in-Ok.ensures.read) c.hear_datagram.ensures.comes

pub returns-clause-costs : goal.returns-clause-costs
returns-clause-costs g c =
    subst (λ (r : Reading). CostsRead c.args.table.now.rows c.args.now r c.args.self.now c.hear_datagram.new.self c.hear_datagram.result c.args.steps.now c.hear_datagram.new.steps) (sym c.in-Ok.ensures.read) c.hear_datagram.ensures.costs
