use Rattle.std.proofs.Common.{◌≡◌, ◌+◌, drop}
use Rattle.scope_run.specs.Texts.{equals_at}
use Rattle.scope_run.proofs.cut.equals_at.Given as goal

abbrev pub invariant-loop-at : goal.invariant-loop-at
invariant-loop-at l = equals_at l.text ≡ l.at + equals_at (drop l.at l.text)
