use Rattle.std.proofs.Common.{◌≡◌, ◌++◌, drop}
use Rattle.book_scope_plan.specs.Notes.{times_beside}
use Rattle.scope_plan.proofs.shift.add_beside.Given as goal

abbrev pub invariant-loop-other : goal.invariant-loop-other
invariant-loop-other l =
    l.times.items ++ times_beside l.pair l.row (drop l.other-index l.others)
    ≡ l.fn.times.items ++ times_beside l.pair l.row l.others
