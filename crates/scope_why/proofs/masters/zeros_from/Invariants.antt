use Rattle.scope_why.proofs.ZerosLaws.{ZerosFrom}
use Rattle.scope_why.proofs.masters.zeros_from.Given as goal

abbrev pub invariant-loop-i : goal.invariant-loop-i
invariant-loop-i l = ZerosFrom l.bytes l.i l.end
