use Rattle.std.proofs.Common.{◌≡◌, drop}
use Rattle.std.specs.List.{find}
use Rattle.book_scope_plan.specs.Reconfiguring.{takes_at}
use Rattle.scope_plan.proofs.reconfiguring.taker.Given as goal

abbrev pub invariant-loop-other : goal.invariant-loop-other
invariant-loop-other l =
    find (takes_at l.pair l.row l.time) (drop l.other-index l.others) ≡ find (takes_at l.pair l.row l.time) l.others
