use Rattle.std.proofs.Common.{refl}
use Rattle.ao_stack.proofs.RowLaws.{adds}
use Rattle.ao_stack.proofs.stack.Stack.add.Goals as goal

pub returns : goal.returns
returns c s S = adds c.args.self.now _ s S c.add.ensures.most refl refl refl c.args.row c.add.result (c.add.ensures.added s.rows s.node S.ends)
