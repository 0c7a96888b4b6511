use Rattle.std.proofs.Common.{◌≡◌, ◌+◌, drop}
use Rattle.book_sessions.specs.Counts.{all_counted}
use Rattle.scope_sessions.proofs.table_text.all_counted.Given as goal

abbrev pub invariant-loop-one : goal.invariant-loop-one
invariant-loop-one l = l.count + all_counted (drop l.one-index l.uses) ≡ all_counted l.uses
