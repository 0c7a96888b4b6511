use Rattle.std.proofs.Common.{◌≡◌, ◌++◌, drop}
use Rattle.std.specs.Prelude.{flat_map}
use Rattle.page_draw_svg.specs.SessionPictures.{session_line_svg, rows_from, session_rows}
use Rattle.draw_session_rungs.proofs.picture.push_elements.Given as goal

abbrev pub invariant-loop-index : goal.invariant-loop-index
invariant-loop-index l =
    l.out.items ++ flat_map (session_line_svg l.ends) (rows_from l.index (drop l.index l.lines)) ≡ l.fn.out.items ++ flat_map (session_line_svg l.ends) (session_rows l.lines)
