use Rattle.std.proofs.Common.{◌≡◌, ◌++◌, drop}
use Rattle.std.specs.List.{flat_map}
use Rattle.book_draw.specs.SessionLadders.{left_line, left_text}
use Rattle.draw_session_rungs.proofs.left.print_left.Given as goal

abbrev pub invariant-loop-run : goal.invariant-loop-run
invariant-loop-run l = l.out.items ++ flat_map left_line (drop l.run-index l.run-items) ≡ left_text l.fn.within l.fn.left
