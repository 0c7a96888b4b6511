use Rattle.std.proofs.Common.{◌≡◌, ◌++◌, ◌-◌}
use Rattle.book_plans.specs.Calendar.{turns_in}
use Rattle.book_keys.specs.Plans.{rows_at}
use Rattle.key_plan.proofs.turns.calendar.Given as goal

abbrev pub decreases-loop-time : goal.decreases-loop-time
decreases-loop-time l = l.to - l.time

abbrev pub invariant-loop-time : goal.invariant-loop-time
invariant-loop-time l =
    l.turns.items ++ turns_in (rows_at l.tables l.pair.local.address) (rows_at l.tables l.pair.remote.address) l.pair l.time (l.to - l.time)
    ≡ turns_in (rows_at l.tables l.pair.local.address) (rows_at l.tables l.pair.remote.address) l.pair l.from (l.to - l.from)
