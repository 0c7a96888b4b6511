use Rattle.std.proofs.Common.{◌≡◌, ◌++◌, List, [], drop, take}
use Rattle.std.specs.Prelude.{flat_map, reverse}
use Rattle.book_draw.specs.declared.rung.Rung.{Rung}
use Rattle.page_draw_svg.specs.Pictures.{element_svg}
use Rattle.page_draw_svg.specs.Placements.{placements_from}
use Rattle.draw_ladder.specs.Sights.{Saw}
use Rattle.scope_draw.specs.Kept.{Keeps}
use Rattle.scope_draw.proofs.picture.push_elements.Given as goal

abbrev pub invariant-loop-index : goal.invariant-loop-index
invariant-loop-index l =
    Keeps l.past l.index (reverse (take l.index l.rungs))
    × ((rs : List Rung) → Saw l.all rs → l.out.items ++ flat_map element_svg (placements_from rs (reverse (take l.index l.rungs)) (drop l.index l.rungs)) ≡ l.fn.out.items ++ flat_map element_svg (placements_from rs [] l.rungs))
