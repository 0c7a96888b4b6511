use Rattle.std.proofs.Common.{refl}
use Rattle.ao_stack.proofs.StandLaws.{came_in_line}
use Rattle.ao_stack.proofs.stack.Stack.touch.Goals as goal

pub returns : goal.returns
returns c s S = came_in_line c.args.self.now _ s S c.args.pair.now refl refl refl c.put.ensures.pairs c.put.ensures.most
