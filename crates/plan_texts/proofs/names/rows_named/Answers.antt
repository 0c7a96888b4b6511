use Rattle.std.proofs.Common.{sym, ◌∙◌}
use Rattle.toml.specs.View.{items_view}
use Rattle.book_scope_plan.specs.AdminNames.{rows_named}
use Rattle.plan_texts.proofs.NodeLaws.{named, goes_on, nowhere}
use Rattle.plan_texts.proofs.names.rows_named.Goals as goal

pub returns-then-is_named : goal.returns-then-is_named
returns-then-is_named c =
    c.rows_in.ensures
    ∙ named c.args.name.now c.args.nodes.now c.loop-node.node-index c.node-item.result (rows_named c.args.name.now (items_view c.args.nodes.now))
    c.loop-node-test.true c.node-item.is c.loop-node.invariant (sym c.is_named.ensures ∙ c.if-is_named.true)

pub loop-node-preserved : goal.loop-node-preserved
loop-node-preserved c =
    goes_on c.args.name.now c.args.nodes.now c.loop-node.node-index c.node-item.result (rows_named c.args.name.now (items_view c.args.nodes.now))
    c.loop-node-test.true c.node-item.is c.loop-node.invariant (sym c.is_named.ensures ∙ c.if-is_named.false)

pub returns : goal.returns
returns c =
    nowhere c.args.name.now c.args.nodes.now c.loop-node.node-index (rows_named c.args.name.now (items_view c.args.nodes.now))
    c.loop-node-test.false c.loop-node.invariant
