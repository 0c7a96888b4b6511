-- Where each rung of a ladder is drawn, with which stroke, and with which label. Its top is
-- `rungs_placed`.
use Rattle.std.specs.Prelude.{ℕ, ◌==◌, List, [], ◌∷◌, length, Option, Some, None}
use Rattle.std.specs.Prelude.{if◌then◌else◌}
use Rattle.std.specs.Option.{option_or}
use Rattle.book_base.specs.declared.end.End.{End}
use Rattle.book_draw.specs.declared.rung.Brought.{Brought}
use Rattle.book_draw.specs.declared.rung.Brought.TheVariants.{Segment, Altered, Injected}
use Rattle.book_draw.specs.declared.rung.Rung.{Rung}
use Rattle.book_draw.specs.declared.rung.Rung.TheVariants.{Clock, Made, Came, Call, Turned}
use Rattle.book_draw.specs.declared.rung.Sketch.{Sketch}
use Rattle.book_draw.specs.Fates.{has_come}
use Rattle.book_draw.specs.Ladders.{arrival_label, sketch_label}
use Rattle.page_draw_svg.specs.declared.placed.Placed.{Placed}
use Rattle.page_draw_svg.specs.declared.placed.Start.{Start}
use Rattle.page_draw_svg.specs.declared.placed.Stroke.{Stroke}
use Rattle.page_draw_svg.specs.declared.placed.Stroke.TheVariants as stroke

-- the arrow of a segment begins at this end and in this row (own)
abbrev pub start_at : End → (row : ℕ) → Sketch → Start
start_at e row s = record { end = e; row = row; key_id = s.key_id }

-- the start of the segment of this number, if this rung, in this row, makes it (own)
abbrev pub start_in : (number row : ℕ) → Rung → Option Start
start_in n row (Clock e seconds) = None
start_in n row (Made e s transmission) = if n == s.name then Some (start_at e row s) else None
start_in n row (Came e what answer) = None
start_in n row (Call e d reply) = None
start_in n row (Turned e phase) = None

-- where the arrow of the segment of this number begins, by the earlier rungs, the newest first
-- (own)
abbrev pub arrow_start : (number : ℕ) → (earlier : List Rung) → Option Start
arrow_start n [] = None
arrow_start n (r ∷ rs) = option_or (start_in n (length rs) r) (arrow_start n rs)

-- where the arrow of what came begins (own)
abbrev pub start_of_brought : (earlier : List Rung) → Brought → Option Start
start_of_brought earlier (Segment n) = arrow_start n earlier
start_of_brought earlier (Altered n) = arrow_start n earlier
start_of_brought earlier Injected = None

-- where the arrow of a rung at which something came begins (own)
abbrev pub start_of_rung : (earlier : List Rung) → Rung → Option Start
start_of_rung earlier (Clock e seconds) = None
start_of_rung earlier (Made e s transmission) = None
start_of_rung earlier (Came e what answer) = start_of_brought earlier what
start_of_rung earlier (Call e d reply) = None
start_of_rung earlier (Turned e phase) = None

-- the stroke of what came (own)
abbrev pub stroke_of_brought : (earlier : List Rung) → Brought → Stroke
stroke_of_brought earlier (Segment n) =
    if has_come n earlier then stroke.Again else stroke.Whole
stroke_of_brought earlier (Altered n) = stroke.Altered
stroke_of_brought earlier Injected = stroke.Injected

-- the stroke of a rung (own)
abbrev pub stroke_of_rung : (all earlier : List Rung) → Rung → Stroke
stroke_of_rung all earlier (Clock e seconds) = stroke.Whole
stroke_of_rung all earlier (Made e s transmission) =
    if has_come s.name all then stroke.Whole else stroke.Lost
stroke_of_rung all earlier (Came e what answer) = stroke_of_brought earlier what
stroke_of_rung all earlier (Call e d reply) = stroke.Whole
stroke_of_rung all earlier (Turned e phase) = stroke.Whole

-- what is written on the arrow of a rung (own)
abbrev pub label_of_rung : (earlier : List Rung) → Rung → List ℕ
label_of_rung earlier (Clock e seconds) = []
label_of_rung earlier (Made e s transmission) = sketch_label s
label_of_rung earlier (Came e what answer) = arrival_label e earlier what
label_of_rung earlier (Call e d reply) = []
label_of_rung earlier (Turned e phase) = []

-- a rung in its place, behind earlier ones (own)
abbrev pub placed_at : (all earlier : List Rung) → Rung → Placed
placed_at all earlier r = record {
  rung = r;
  row = length earlier;
  label = label_of_rung earlier r;
  stroke = stroke_of_rung all earlier r;
  start = start_of_rung earlier r;
}

-- rungs in their places, behind earlier ones, the newest first (own)
abbrev pub placements_from : (all earlier later : List Rung) → List Placed
placements_from all earlier [] = []
placements_from all earlier (r ∷ rs) =
    placed_at all earlier r ∷ placements_from all (r ∷ earlier) rs

-- all rungs in their places (own)
abbrev pub rungs_placed : List Rung → List Placed
rungs_placed rs = placements_from rs [] rs

-- the rung of a place (own)
abbrev pub rung_of_placed : Placed → Rung
rung_of_placed p = p.rung
