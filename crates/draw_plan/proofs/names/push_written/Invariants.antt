use Rattle.std.proofs.Common.{◌≡◌, ◌++◌, drop}
use Rattle.page_draw_plan_svg.specs.RowNames.{written_after}
use Rattle.draw_plan.proofs.names.push_written.Given as goal

abbrev pub invariant-loop-byte : goal.invariant-loop-byte
invariant-loop-byte l =
    l.out.items ++ written_after l.one l.two (drop l.byte-index l.text) ≡ l.fn.out.items ++ written_after 0 0 l.text
