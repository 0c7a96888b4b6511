use Rattle.std.proofs.Common.{◌≡◌, ◌≤◌, drop, length}
use Rattle.book_sessions.specs.KeyLines.{last_of}
use Rattle.book_sessions.specs.Retiring.{carries_row}
use Rattle.scope_sessions.proofs.users.last_carrying.Given as goal

abbrev pub invariant-loop-left : goal.invariant-loop-left
invariant-loop-left l = record {
  within : l.left ≤ length l.uses;
  last : l.last ≡ last_of (carries_row l.table l.number l.row) (drop l.left l.uses);
}

abbrev pub decreases-loop-left : goal.decreases-loop-left
decreases-loop-left l = l.left
