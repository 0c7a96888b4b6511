use Rattle.std.proofs.Common.{◌≡◌, ◌++◌, ◌+◌, drop}
use Rattle.book_scope_plan.specs.BarOrders.{all_sending_bars}
use Rattle.draw_plan.specs.Drawn.{way_of}
use Rattle.draw_plan.proofs.order.push_all_sending.Given as goal

abbrev pub invariant-loop-i : goal.invariant-loop-i
invariant-loop-i l =
    l.bars.items ++ all_sending_bars (way_of l.way) (l.i + 1) (drop l.i l.rows) ≡ l.fn.bars.items ++ all_sending_bars (way_of l.way) 1 l.rows
