use Rattle.std.proofs.Common.{◌≡◌, ◌++◌, drop}
use Rattle.book_scope_plan.specs.Notes.{all_times}
use Rattle.scope_plan.proofs.shift.all_times.Given as goal

abbrev pub invariant-loop-row : goal.invariant-loop-row
invariant-loop-row l =
    l.times.items ++ all_times l.pair (drop l.row-index l.rows) l.others ≡ all_times l.pair l.rows l.others
