-- The picture of a ladder in SVG, 800 wide: the two ends as upright strokes, a row of 22 for each
-- rung, an arrow from where a segment is made to where it comes. Our own format. Its tops are
-- `svg_text` and `drawn_as`.
use Rattle.std.specs.Prelude.{ℕ, ◌+◌, ◌*◌, ◌==◌, ◌&&◌, Bool, true, false, List, [], ◌∷◌, ◌++◌}
use Rattle.std.specs.Prelude.{length, codes, flat_map, Option, Some, None, option_map}
use Rattle.std.specs.Prelude.{if◌then◌else◌}
use Rattle.book_base.specs.declared.end.End.{End}
use Rattle.book_base.specs.declared.end.End.TheVariants.{A, B}
use Rattle.book_draw.specs.declared.rung.Rung.{Rung}
use Rattle.book_draw.specs.declared.rung.Rung.TheVariants.{Clock, Made, Came, Call, Turned}
use Rattle.book_draw.specs.declared.rung.Sketch.{Sketch}
use Rattle.book_draw.specs.Ladders.{ladder_text, rung_end, rung_margin}
use Rattle.page_draw_svg.specs.declared.placed.Form.{Form}
use Rattle.page_draw_svg.specs.declared.placed.Form.TheVariants.{Text, Svg}
use Rattle.page_draw_svg.specs.declared.placed.Placed.{Placed}
use Rattle.page_draw_svg.specs.declared.placed.Start.{Start}
use Rattle.page_draw_svg.specs.declared.placed.Stroke.{Stroke}
use Rattle.page_draw_svg.specs.declared.placed.Stroke.TheVariants as stroke
use Rattle.page_draw_svg.specs.Placements.{rungs_placed}
use Rattle.book_link.specs.Worlds.{same_end}
use Rattle.page_svg.specs.declared.point.Point.{Point}
use Rattle.page_svg.specs.Tags.{colour_text, dot_tag, head_svg, line_tag, titled_tag, words_tag}

-- the height of a row, from above (own)
abbrev pub row_height : (row : ℕ) → ℕ
row_height row = 22 * row + 90

-- the height of the words on an arrow of a row (own)
abbrev pub label_height : (row : ℕ) → ℕ
label_height row = 22 * row + 85

-- the height of the words beside a row (own)
abbrev pub margin_height : (row : ℕ) → ℕ
margin_height row = 22 * row + 94

-- the height in which the arrow of a segment that is lost ends (own)
abbrev pub lost_height : (row : ℕ) → ℕ
lost_height row = 22 * row + 93

-- the column of an end's stroke (own)
abbrev pub end_column : End → ℕ
end_column A = 262
end_column B = 538

-- the column of the words beside an end (own)
abbrev pub margin_column : End → ℕ
margin_column A = 252
margin_column B = 548

-- the column of the words on an arrow, at the side of this end (own)
abbrev pub label_column : End → ℕ
label_column A = 272
label_column B = 528

-- the column in which the arrow of a segment that is lost ends (own)
abbrev pub lost_column : End → ℕ
lost_column A = 470
lost_column B = 330

-- the column of an end, or the one between the ends (own)
abbrev pub start_column : (at : End) → Option Start → ℕ
start_column at None = 400
start_column at (Some s) = if same_end s.end at then 400 else end_column s.end

-- the row in which the arrow of what comes in this one begins (own)
abbrev pub start_row : (row : ℕ) → Option Start → ℕ
start_row row None = row
start_row row (Some s) = s.row

-- what was made comes in the row behind it (own)
abbrev pub is_at_once : (row : ℕ) → Option Start → Bool
is_at_once row None = false
is_at_once row (Some s) = s.row + 1 == row

-- the dashes of a stroke (SVG 2, section 13.5.6, own)
abbrev pub dash_attribute : Stroke → List ℕ
dash_attribute stroke.Whole = []
dash_attribute stroke.Lost = codes " stroke-dasharray=\"2 4\" marker-end=\"url(#lost)\""
dash_attribute stroke.Again = codes " stroke-dasharray=\"12 4\""
dash_attribute stroke.Altered = codes " stroke-dasharray=\"12 3 2 3\""
dash_attribute stroke.Injected = codes " stroke-dasharray=\"5 3\" stroke-width=\"3.5\""

-- the words beside a rung whose arrow has this stroke (own)
abbrev pub words_beside : Stroke → Rung → List ℕ
words_beside stroke.Lost r = rung_margin false r
words_beside s r = rung_margin true r

-- the words on an arrow, at the side of this end (own)
abbrev pub label_svg : End → Placed → List ℕ
label_svg e p =
    words_tag (record { x = label_column e; y = label_height p.row }) (same_end e B) p.label

-- what is drawn of a segment that is made: a dot where its arrow begins, or, of one that is lost,
-- the arrow (own)
abbrev pub leaving_svg : End → (row : ℕ) → Stroke → List ℕ
leaving_svg e row stroke.Lost =
    line_tag (record { x = end_column e; y = row_height row })
    (record { x = lost_column e; y = lost_height row }) (dash_attribute stroke.Lost)
leaving_svg e row s = dot_tag (record { x = end_column e; y = row_height row })

-- the arrow of what comes (own)
abbrev pub reaching_svg : End → Placed → List ℕ
reaching_svg e p =
    line_tag (record { x = start_column e p.start; y = row_height (start_row p.row p.start) })
    (record { x = end_column e; y = row_height p.row })
    (codes " marker-end=\"url(#tip)\"" ++ dash_attribute p.stroke)

-- the arrow of a rung with its title, where it has one (own)
abbrev pub arrow_svg : Placed → Rung → List ℕ
arrow_svg p (Clock e seconds) = []
arrow_svg p (Made e s transmission) =
    titled_tag (codes "made") (colour_text (Some s.key_id))
    (p.label ++ words_beside p.stroke p.rung) (leaving_svg e p.row p.stroke ++ label_svg e p)
arrow_svg p (Came e what answer) =
    titled_tag (codes "came") (colour_text (option_map (λ s. s.key_id) p.start))
    (p.label ++ words_beside p.stroke p.rung) (reaching_svg e p)
arrow_svg p (Call e d reply) = []
arrow_svg p (Turned e phase) = []

-- this is the stroke of what comes as it was made, for the first time (own)
abbrev pub is_whole : Stroke → Bool
is_whole stroke.Whole = true
is_whole s = false

-- the label of what comes, which stands beside the end, so that no stroke crosses it; what comes as
-- soon as it is made has the label on its arrow alone (own)
abbrev pub came_label : Placed → Rung → List ℕ
came_label p (Clock e seconds) = []
came_label p (Made e s transmission) = []
came_label p (Came e what answer) =
    if is_at_once p.row p.start && is_whole p.stroke then [] else p.label
came_label p (Call e d reply) = []
came_label p (Turned e phase) = []

-- the words beside an end (own)
abbrev pub margin_svg : Placed → List ℕ
margin_svg p =
    words_tag (record { x = margin_column (rung_end p.rung); y = margin_height p.row })
    (same_end (rung_end p.rung) A) (came_label p p.rung ++ words_beside p.stroke p.rung)

-- the element of a rung (own)
abbrev pub element_svg : Placed → List ℕ
element_svg p = arrow_svg p p.rung ++ (margin_svg p ++ 10 ∷ [])

-- the tip of an arrow that comes (SVG 2, section 13.7, own)
unfoldable pub tip_svg : List ℕ
tip_svg =
    codes "<marker id=\"tip\" viewBox=\"0 0 10 10\" refX=\"9\" refY=\"5\" "
    ++ (codes "markerUnits=\"userSpaceOnUse\" markerWidth=\"10\" markerHeight=\"10\" "
    ++ codes "orient=\"auto\"><path d=\"M0 0L10 5L0 10z\" stroke=\"none\"/></marker>")

-- the tip of an arrow that never comes, a cross (SVG 2, section 13.7, own)
unfoldable pub lost_tip_svg : List ℕ
lost_tip_svg =
    codes "<marker id=\"lost\" viewBox=\"0 0 10 10\" refX=\"5\" refY=\"5\" "
    ++ (codes "markerUnits=\"userSpaceOnUse\" markerWidth=\"10\" markerHeight=\"10\">"
    ++ codes "<path d=\"M1 1L9 9M9 1L1 9\" stroke=\"#000\" fill=\"none\"/></marker>")

-- the tips of arrows (SVG 2, section 13.7, own)
unfoldable pub tips_svg : List ℕ
tips_svg = codes "<defs>" ++ (tip_svg ++ (lost_tip_svg ++ codes "</defs>\n"))

-- the sample of a stroke, in this column, with its name (own)
unfoldable pub sample_svg : (column : ℕ) → Stroke → (name : List ℕ) → List ℕ
sample_svg column s name =
    line_tag (record { x = column; y = 20 }) (record { x = column + 50; y = 20 })
    (codes " stroke=\"#000\"" ++ dash_attribute s)
    ++ words_tag (record { x = column + 60; y = 24 }) false name

-- the strokes and their names (own)
unfoldable pub samples_svg : List ℕ
samples_svg =
    sample_svg 20 stroke.Whole (codes "comes")
    ++ (sample_svg 170 stroke.Lost (codes "is lost")
    ++ (sample_svg 320 stroke.Again (codes "comes again")
    ++ (sample_svg 490 stroke.Altered (codes "altered")
    ++ sample_svg 640 stroke.Injected (codes "injected"))))

-- the upright stroke of an end, of this height, and its name (own)
unfoldable pub upright_svg : (height : ℕ) → End → (name : List ℕ) → List ℕ
upright_svg height e name =
    line_tag (record { x = end_column e; y = 66 }) (record { x = end_column e; y = height })
    (codes " stroke=\"#000\"")
    ++ words_tag (record { x = end_column e; y = 58 }) false name

-- the two ends, of this height (own)
abbrev pub uprights_svg : (height : ℕ) → List ℕ
uprights_svg height = upright_svg height A (codes "a") ++ upright_svg height B (codes "b")

-- what stands in front of the elements of so many rungs (own)
unfoldable pub front_svg : (count : ℕ) → List ℕ
front_svg count =
    head_svg (row_height count)
    ++ (tips_svg ++ (samples_svg ++ uprights_svg (row_height count)))

-- a picture of rungs (own)
unfoldable pub svg_text : List Rung → List ℕ
svg_text rs =
    front_svg (length rs) ++ (flat_map element_svg (rungs_placed rs) ++ codes "</svg>\n")

-- rungs, drawn in a form (own)
abbrev pub drawn_as : Form → List Rung → List ℕ
drawn_as Text rs = ladder_text rs
drawn_as Svg rs = svg_text rs
