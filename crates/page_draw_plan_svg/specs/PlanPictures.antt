-- The picture of planned rollovers in SVG: for each line of the text words and, below them, what
-- stands over the time. Our own format. Its top is `picture_text`.
use Rattle.std.specs.Prelude.{ℕ, zero, suc, ◌+◌, ◌-◌, ◌*◌, ◌/◌, ◌%◌, ◌&&◌, nat_le, nat_lt, max, min}
use Rattle.std.specs.Prelude.{false, List, [], ◌∷◌, ◌++◌, length, flat_map, codes, decimal, Option}
use Rattle.std.specs.Prelude.{Some, None, if◌then◌else◌}
use Rattle.book_base.specs.declared.address.Pair.{Pair}
use Rattle.book_scope_plan.specs.declared.duty.Duty.{Duty}
use Rattle.book_scope_plan.specs.declared.duty.Duty.TheVariants.{Accepts, Sends}
use Rattle.book_scope_plan.specs.declared.slice.Slice.{Slice}
use Rattle.book_scope_plan.specs.BarOrders.{plan_time}
use Rattle.book_scope_plan.specs.Bars.{ShownBar, duty_id, duty_text, good_plans, shown_bar}
use Rattle.book_scope_plan.specs.Bars.{summary_words}
use Rattle.page_draw_plan_svg.specs.declared.unit.DateUnit.{DateUnit}
use Rattle.page_draw_plan_svg.specs.Dates.{date_text, is_dated, unit_for, unit_step}
use Rattle.page_draw_plan_svg.specs.PlanLines.{PlannedPair, PlanLine, Barred, Missing, Named}
use Rattle.page_draw_plan_svg.specs.PlanLines.{Scale, Wrong, drawings_lines}
use Rattle.page_draw_plan_svg.specs.RowNames.{named_row, picture_width}
use Rattle.page_draw_plan_svg.specs.Spans.{bar_span, duty_lifetime, finding_span, span_width}
use Rattle.page_draw_plan_svg.specs.Spans.{time_column}
use Rattle.book_keys.specs.declared.lifetime.Lifetime.{Lifetime}
use Rattle.book_keys.specs.declared.plan.Plan.{Plan}
use Rattle.book_keys.specs.Lifetimes.{greatest_time}
use Rattle.book_lines.specs.Said.{Said}
use Rattle.book_plans.specs.declared.finding.Finding.{Finding}
use Rattle.book_scope_plan.specs.AdminNames.{KeyFile}
use Rattle.book_scope_plan.specs.FindingTexts.{text_if, times_text}
use Rattle.book_scope_plan.specs.PlanTexts.{pair_words, missing_words}
use Rattle.book_scope_texts.specs.Instants.{instant_text}
use Rattle.page_svg.specs.Tags.{box_tag, colour_text, line_tag, style_svg, titled_tag, words_tag}
use Rattle.toml.specs.Data.{Members}

-- the height of the words of a line, from above (own)
abbrev pub words_height : (line : ℕ) → ℕ
words_height line = 36 * line + 34

-- the height of the upper edge of the bars of a line (own)
abbrev pub bars_height : (line : ℕ) → ℕ
bars_height line = 36 * line + 40

-- the height of a picture of so many lines (own)
abbrev pub picture_height : (count : ℕ) → ℕ
picture_height count = 36 * count + 30

-- the words of a line (own)
abbrev pub line_words : (line : ℕ) → (words : List ℕ) → List ℕ
line_words line words = words_tag (record { x = 20; y = words_height line }) false words

-- how a bar is filled: white for what is accepted, and else in its colour (SVG 2, section 13.2,
-- own)
abbrev pub fill_attribute : Duty → (key_id : ℕ) → List ℕ
fill_attribute Accepts id = codes " fill=\"#fff\""
fill_attribute Sends id = codes " fill=\"" ++ (colour_text (Some id) ++ codes "\"")

-- a triangle at this side, whose point lies half the height of a bar below its upper edge (SVG 2,
-- section 9.3, own)
abbrev pub edge_tag : (side point : List ℕ) → (height : ℕ) → (attributes : List ℕ) → List ℕ
edge_tag side point height attributes =
    side ++ (decimal height ++ (point ++ (attributes ++ codes "/>")))

-- triangles where a lifetime begins before a time or ends after it: a bar goes on there (own)
unfoldable pub edges_svg : (height : ℕ) → (time : Slice) → Lifetime → (attributes : List ℕ) → List ℕ
edges_svg height time l attributes =
    text_if (nat_lt l.first time.first)
    (edge_tag (codes "<path d=\"M20 ") (codes "l-9 6 9 6z\"") height attributes)
    ++ text_if (nat_lt time.last l.last)
    (edge_tag (codes "<path d=\"M780 ") (codes "l9 6-9 6z\"") height attributes)

-- a bar over these seconds, where there are some (own)
abbrev pub span_bar : (line : ℕ) → ShownBar → (attributes : List ℕ) → Option Slice → List ℕ
span_bar line bar attributes None = []
span_bar line bar attributes (Some span) =
    box_tag (record { x = time_column bar.time span.first; y = bars_height line })
    (span_width bar.time span) 12 attributes
    ++ edges_svg (bars_height line) bar.time (duty_lifetime bar.duty bar.row) attributes

-- whose a bar is: node, number, AdminKeyName and KeyID of a row, and what it does (own)
unfoldable pub bar_words : Members → ShownBar → List ℕ
bar_words document bar = named_row document bar.name bar.number ++ duty_text bar.duty bar.row

-- the title of a bar: its words, and the whole lifetime (own)
unfoldable pub bar_title : Members → ShownBar → List ℕ
bar_title document bar =
    bar_words document bar ++ (codes " from "
    ++ times_text (duty_lifetime bar.duty bar.row).first (duty_lifetime bar.duty bar.row).last)

-- what a row does, as a class of elements (own)
abbrev pub duty_class : Duty → List ℕ
duty_class Accepts = codes "accepts"
duty_class Sends = codes "sends"

-- a bar with its words and its title, in the colour of its KeyID (own)
unfoldable pub shown_svg : Members → (line : ℕ) → ShownBar → List ℕ
shown_svg document line bar =
    titled_tag (duty_class bar.duty) (colour_text (Some (duty_id bar.duty bar.row)))
    (bar_title document bar)
    (line_words line (bar_words document bar)
    ++ span_bar line bar (fill_attribute bar.duty (duty_id bar.duty bar.row))
    (bar_span bar.pair bar.duty bar.row bar.time))

-- a bar whose row is there (own)
abbrev pub bar_svg : Members → (line : ℕ) → Option ShownBar → List ℕ
bar_svg document line None = []
bar_svg document line (Some bar) = shown_svg document line bar

-- an upright stroke at this column of a scale (own)
abbrev pub tick_svg : (line column : ℕ) → List ℕ
tick_svg line column =
    line_tag (record { x = column; y = bars_height line })
    (record { x = column; y = bars_height line + 12 }) (codes " stroke=\"#999\"")

-- a stroke at this column, and this date beside it, where that has room (own)
unfoldable pub date_svg : (line column : ℕ) → (date : List ℕ) → List ℕ
date_svg line column date =
    tick_svg line column
    ++ text_if (nat_le (column + 8 * length date) 790)
    (words_tag (record { x = column + 4; y = bars_height line + 11 }) false date)

-- the same at a time, where that is of the time that is drawn and has a date (own)
abbrev pub time_svg : (line : ℕ) → (time : Slice) → DateUnit → ℕ → List ℕ
time_svg line time unit t =
    text_if (nat_le time.first t && is_dated unit (instant_text t))
    (date_svg line (time_column time t) (date_text unit t))

-- so many steps of these dates, from a time until the last that is drawn or can be written (own)
abbrev pub dates_svg : (line : ℕ) → (time : Slice) → DateUnit → (count : ℕ) → ℕ → List ℕ
dates_svg line time unit zero t = []
dates_svg line time unit (suc n) t =
    if nat_le t (min time.last greatest_time) then
    time_svg line time unit t ++ dates_svg line time unit n (t + unit_step unit)
    else []

-- the last step of a unit before a time or at it (own)
abbrev pub step_before : DateUnit → (time : ℕ) → ℕ
step_before unit time = time - time % unit_step unit

-- how many steps suffice for a time (own)
abbrev pub step_count : DateUnit → Slice → ℕ
step_count unit time = (time.last - time.first) / unit_step unit + 2

-- the words of a time, and its dates by this unit (own)
unfoldable pub dated_svg : (line : ℕ) → (time : Slice) → DateUnit → List ℕ
dated_svg line time unit =
    line_words line (times_text time.first time.last)
    ++ (dates_svg line time unit (step_count unit time) (step_before unit time.first) ++ 10 ∷ [])

-- the words of a time, and its dates (own)
abbrev pub scale_svg : (line : ℕ) → (time : Slice) → List ℕ
scale_svg line time = dated_svg line time (unit_for (time.last - time.first))

-- the mark of the seconds at which something is wrong, at least 3 wide; its title says when (own)
unfoldable pub mark_svg : (line : ℕ) → (time s : Slice) → List ℕ
mark_svg line time s =
    titled_tag (codes "wrong") (colour_text None) (codes "wrong " ++ times_text s.first s.last)
    (box_tag (record { x = time_column time s.first; y = bars_height line })
    (max 3 (span_width time s)) 12 (codes " fill=\"#000\""))

-- the mark of these seconds, where there are some (own)
abbrev pub span_mark : (line : ℕ) → Slice → Option Slice → List ℕ
span_mark line time None = []
span_mark line time (Some s) = mark_svg line time s

-- the mark of a finding (own)
abbrev pub finding_svg : (line : ℕ) → Slice → PlannedPair → Finding → List ℕ
finding_svg line time j f = span_mark line time (finding_span j.a j.b j.pair time f)

-- the marks of all that doesn't hold of a plan (own)
unfoldable pub wrong_svg : (line : ℕ) → Slice → PlannedPair → List ℕ
wrong_svg line time j =
    line_words line (codes "wrong") ++ (10 ∷ flat_map (finding_svg line time j) j.findings)

-- a line of a picture (own)
abbrev pub line_svg : Members → Plan → (line : ℕ) → PlanLine → List ℕ
line_svg document plan line (Named pair) = line_words line (pair_words pair) ++ 10 ∷ []
line_svg document plan line (Missing address) = line_words line (missing_words address) ++ 10 ∷ []
line_svg document plan line Scale = scale_svg line (plan_time plan)
line_svg document plan line (Barred j bar) =
    bar_svg document line (shown_bar j.a j.b j.pair (plan_time plan) bar)
line_svg document plan line (Wrong j) = wrong_svg line (plan_time plan) j

-- lines of a picture, the first of which has this number (own)
abbrev pub lines_svg : Members → Plan → (first : ℕ) → List PlanLine → List ℕ
lines_svg document plan n [] = []
lines_svg document plan n (l ∷ ls) =
    line_svg document plan n l ++ lines_svg document plan (n + 1) ls

-- how wide and how high a picture is (SVG 2, section 8.2, own)
unfoldable pub plan_size : (width height : ℕ) → List ℕ
plan_size width height =
    (codes "<svg xmlns=\"http://www.w3.org/2000/svg\" width=\"" ++ decimal width)
    ++ ((codes "\" height=\"" ++ decimal height)
    ++ ((codes "\" viewBox=\"0 0 " ++ decimal width) ++ (codes " " ++ decimal height)))

-- the head of a picture of this width and height (SVG 2, section 8.2, own)
unfoldable pub plan_head : (width height : ℕ) → List ℕ
plan_head width height =
    plan_size width height
    ++ (codes "\" font-family=\"monospace\" font-size=\"12\" stroke-width=\"1.5\">\n" ++ style_svg)

-- above the lines, how many connections there are, where there are two or more (own)
unfoldable pub summary_svg : (all good : ℕ) → List ℕ
summary_svg all good =
    text_if (nat_lt 1 all)
    (words_tag (record { x = 20; y = 16 }) false (summary_words all good) ++ 10 ∷ [])

-- the picture of these lines of so many connections (own)
abbrev pub lines_picture : KeyFile → Plan → (all good : ℕ) → List PlanLine → List ℕ
lines_picture keys plan all good ls =
    plan_head (picture_width keys) (picture_height (length ls))
    ++ (summary_svg all good ++ (lines_svg keys.document plan 0 ls ++ codes "</svg>\n"))

-- the picture of connections, one below another (own)
abbrev pub picture_text : KeyFile → Plan → List (Said Pair) → List ℕ
picture_text keys plan said =
    lines_picture keys plan (length said) (good_plans keys.tables plan said)
    (drawings_lines keys.tables plan said)
