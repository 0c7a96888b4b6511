use Rattle.cmd_node.proofs.RunLaws.{Running}
use Rattle.cmd_node.proofs.run.answer_all.Given as goal

abbrev pub invariant-loop-i : goal.invariant-loop-i
invariant-loop-i g l = Running l.table.rows l.events l.i l.node l.clock l.out.items
