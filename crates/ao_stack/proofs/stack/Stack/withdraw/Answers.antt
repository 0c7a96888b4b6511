use Rattle.std.proofs.Common.{refl}
use Rattle.ao_stack.proofs.RowLaws.{withdraws}
use Rattle.ao_stack.proofs.stack.Stack.withdraw.Goals as goal

pub returns : goal.returns
returns c s S = withdraws c.args.self.now _ s S c.withdraw.ensures.most refl refl refl c.args.n c.withdraw.result (c.withdraw.ensures.withdrawn s.rows s.node S.ends)
