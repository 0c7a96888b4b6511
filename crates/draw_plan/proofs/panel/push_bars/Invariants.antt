use Rattle.std.proofs.Common.{◌≡◌, ◌++◌, ◌+◌, drop}
use Rattle.toml.specs.View.{table_view}
use Rattle.book_scope_plan.specs.BarOrders.{plan_time}
use Rattle.draw_plan.specs.Draws.{bars_svg}
use Rattle.draw_plan.proofs.panel.push_bars.Given as goal

abbrev pub invariant-loop-bar : goal.invariant-loop-bar
invariant-loop-bar l =
    let document = table_view l.paper.document.now in
    let time = plan_time l.paper.plan in
    (l.next ≡ l.line + l.bar-index)
    × (l.out.items ++ bars_svg document time l.ends l.next (drop l.bar-index l.bars) ≡ l.fn.out.items ++ bars_svg document time l.ends l.line l.bars)
