use Rattle.std.proofs.Common.{arith}
use Rattle.toml.specs.View.{table_view}
use Rattle.page_draw_plan_svg.specs.RowNames.{longest_name}
use Rattle.draw_plan.proofs.WidthLaws.{one_node}
use Rattle.draw_plan.proofs.widths.longest_name.Goals as goal

pub loop-i-preserved : goal.loop-i-preserved
loop-i-preserved c =
    one_node (table_view c.args.document.now) c.loop-i.i c.args.tables.now c.node.result.now c.loop-i.most c.in_ok-most.most
    (longest_name (table_view c.args.document.now) 0 c.args.tables.now) (omega (arith, c.loop-i-test.true, c.nodes-i-end.ensures.value)) c.node.ensures
    c.loop-i.invariant c.in_ok-most.ensures
