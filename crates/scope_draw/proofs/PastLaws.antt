-- A rung in its place.
use Rattle.std.proofs.Common.{◌≡◌, ℕ, ◌+◌, ◌==◌, Bool, true, false, List, [], ◌∷◌, Option, Some, None, get_or, length, if◌then◌else◌, refl, sym, ap, ◌∙◌, arith}
use Rattle.std.specs.Option.{option_or}
use Rattle.book_draw.specs.declared.rung.Rung.{Rung}
use Rattle.page_draw_svg.specs.declared.placed.Placed.{Placed}
use Rattle.page_draw_svg.specs.declared.placed.Start.{Start}
use Rattle.page_draw_svg.specs.Placements.{label_of_rung, placed_at, start_in, arrow_start, start_of_rung, stroke_of_rung}
use Rattle.draw_ladder.specs.Sights.{Saw}
use Rattle.scope_draw.specs.declared.past.Past.{Past}
use Rattle.scope_draw.specs.Kept.{Keeps}

-- a rung in its place, part by part
pub is_placed : (p : Placed) (row : ℕ) (past : Past) (all earlier : List Rung) (r : Rung) → Keeps past row earlier
    → p.rung ≡ r → p.row ≡ row → p.label ≡ label_of_rung earlier r → p.stroke ≡ stroke_of_rung all earlier r → p.start ≡ start_of_rung earlier r
    → p ≡ placed_at all earlier r
is_placed p row past all earlier r k a b c d e = rw (← c, ← d, ← e, ← k.counted, ← b, ← a) refl
