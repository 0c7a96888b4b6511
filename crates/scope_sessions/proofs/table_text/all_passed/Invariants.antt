use Rattle.std.proofs.Common.{◌≡◌, ◌+◌, drop}
use Rattle.book_sessions.specs.Counts.{all_passed}
use Rattle.scope_sessions.proofs.table_text.all_passed.Given as goal

abbrev pub invariant-loop-one : goal.invariant-loop-one
invariant-loop-one l = l.count + all_passed (drop l.one-index l.passed) ≡ all_passed l.passed
