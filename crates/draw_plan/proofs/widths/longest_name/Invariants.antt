use Rattle.std.proofs.Common.{◌≡◌, drop}
use Rattle.toml.specs.View.{table_view}
use Rattle.page_draw_plan_svg.specs.RowNames.{longest_name}
use Rattle.draw_plan.proofs.widths.longest_name.Given as goal

abbrev pub invariant-loop-i : goal.invariant-loop-i
invariant-loop-i l = longest_name (table_view l.document) l.most (drop l.i l.tables) ≡ longest_name (table_view l.document) 0 l.tables
