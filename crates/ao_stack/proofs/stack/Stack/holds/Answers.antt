use Rattle.std.proofs.Common.{◌∙◌}
use Rattle.ao_stack.proofs.BeginLaws.{some_mapped}
use Rattle.ao_stack.proofs.stack.Stack.holds.Goals as goal

pub returns : goal.returns
returns c s S = c.is_some.ensures ∙ some_mapped _ c.front.result (c.front.ensures s.rows s.node S.ends)
