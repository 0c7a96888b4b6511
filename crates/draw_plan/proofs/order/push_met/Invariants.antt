use Rattle.std.proofs.Common.{◌≡◌, ◌++◌, ◌+◌, drop}
use Rattle.book_scope_plan.specs.BarOrders.{accept_bars, accepts_under}
use Rattle.draw_plan.proofs.order.push_met.Given as goal

abbrev pub invariant-loop-i : goal.invariant-loop-i
invariant-loop-i l =
    l.bars.items ++ accept_bars (accepts_under l.way.facing l.way.time l.id) l.end (l.i + 1) (drop l.i l.way.others.now)
    ≡ l.fn.bars.items ++ accept_bars (accepts_under l.way.facing l.way.time l.id) l.end 1 l.way.others.now
