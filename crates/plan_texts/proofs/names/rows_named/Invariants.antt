use Rattle.std.proofs.Common.{◌≡◌, drop}
use Rattle.toml.specs.View.{items_view}
use Rattle.book_scope_plan.specs.AdminNames.{rows_named}
use Rattle.plan_texts.proofs.names.rows_named.Given as goal

abbrev pub invariant-loop-node : goal.invariant-loop-node
invariant-loop-node l = rows_named l.name (items_view (drop l.node-index l.nodes)) ≡ rows_named l.name (items_view l.nodes)
