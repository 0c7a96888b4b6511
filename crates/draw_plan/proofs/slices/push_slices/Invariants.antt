use Rattle.std.proofs.Common.{◌≡◌, ◌++◌, ◌+◌, ◌-◌, ◌<◌, ◌^◌}
use Rattle.book_scope_plan.specs.Slices.{slices_from}
use Rattle.draw_plan.proofs.slices.push_slices.Given as goal

abbrev pub invariant-loop-done : goal.invariant-loop-done
invariant-loop-done l =
    (l.time + l.left < 2 ^ 64) × (l.slices.items ++ slices_from l.width (48 - l._done) l.time l.left ≡ l.fn.slices.items ++ slices_from l.width 48 l.low l.more)
