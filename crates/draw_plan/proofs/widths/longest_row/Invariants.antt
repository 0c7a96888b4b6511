use Rattle.std.proofs.Common.{◌≡◌, ◌+◌, drop}
use Rattle.toml.specs.View.{table_view}
use Rattle.page_draw_plan_svg.specs.RowNames.{longest_row}
use Rattle.draw_plan.proofs.widths.longest_row.Given as goal

abbrev pub invariant-loop-i : goal.invariant-loop-i
invariant-loop-i l =
    longest_row (table_view l.document) l.name l.most (l.i + 1) (drop l.i l.rows) ≡ longest_row (table_view l.document) l.name l.so_far 1 l.rows
