use Rattle.std.proofs.Common.{◌≡◌, ◌++◌, drop}
use Rattle.std.specs.Prelude.{flat_map}
use Rattle.book_scope_plan.specs.Bars.{bar_byte}
use Rattle.draw_plan.proofs.bars.push_bar_bytes.Given as goal

abbrev pub invariant-loop-slice : goal.invariant-loop-slice
invariant-loop-slice l =
    l.out.items ++ flat_map (bar_byte l.pair l.duty l.row) (drop l.slice-index l.slices) ≡ l.fn.out.items ++ flat_map (bar_byte l.pair l.duty l.row) l.slices
