-- The text of a ladder: a line for each rung, of at most 100 columns, with the two ends as two
-- upright strokes. Our own format. Its top is `ladder_text`.
use Rattle.std.specs.Prelude.{ℕ, ◌-◌, ◌==◌, nat_lt, not, ◌&&◌, Bool, true, false, List, [], ◌∷◌}
use Rattle.std.specs.Prelude.{◌++◌, length, replicate, codes, decimal, Option, Some, None}
use Rattle.std.specs.Prelude.{if◌then◌else◌}
use Rattle.book_base.specs.declared.end.End.{End}
use Rattle.book_base.specs.declared.end.End.TheVariants.{A, B}
use Rattle.book_endpoint.specs.declared.arrival.Arrival.{Arrival}
use Rattle.book_lines.specs.Texts.{spaced}
use Rattle.book_link.specs.Reports.{answer_texts, flags_text}
use Rattle.book_link.specs.Worlds.{same_end, other}
use Rattle.book_draw.specs.declared.rung.Sketch.{Sketch}
use Rattle.book_draw.specs.declared.rung.Brought.{Brought}
use Rattle.book_draw.specs.declared.rung.Brought.TheVariants.{Segment, Altered, Injected}
use Rattle.book_draw.specs.declared.rung.Delivery.{Delivery}
use Rattle.book_draw.specs.declared.rung.Rung.{Rung}
use Rattle.book_draw.specs.declared.rung.Rung.TheVariants.{Clock, Made, Came, Call, Turned}
use Rattle.book_draw.specs.Fates.{delivery_of, has_come, newest_at}
use Rattle.book_draw.specs.Margins.{call_margin, clock_margin, fate_word, making_word}
use Rattle.book_draw.specs.Margins.{phase_margin}

-- the way between the two strokes has 43 columns, and the left margin 27 (own)
abbrev pub blank_way : List ℕ
blank_way = replicate 43 32

-- a line: the left margin, the way between the ends, and the right margin (own)
abbrev pub ladder_line : (left way right : List ℕ) → List ℕ
ladder_line left way right =
    replicate (27 - length left) 32 ++ (left ++ (codes " |" ++ (way ++ (124 ∷ (right ++ 10 ∷ [])))))

-- a line by what stands at this end, and at the other (own)
abbrev pub line_at : End → (own way other : List ℕ) → List ℕ
line_at A own way other = ladder_line own way other
line_at B own way other = ladder_line other way own

-- what an arrow is drawn with: a byte for the first three columns of its way, for its stroke and
-- for its last column (own)
pub record Pen : Type 0 where
  pub lead : ℕ
  pub stroke : ℕ
  pub tip : ℕ

-- the way of an arrow from a to b: three columns, the label, the stroke, and the last column (own)
abbrev pub rightward : Pen → List ℕ → List ℕ
rightward pen label =
    replicate 3 pen.lead ++ (label ++ (32 ∷ (replicate (38 - length label) pen.stroke
    ++ pen.tip ∷ [])))

-- the way of an arrow from b to a (own)
abbrev pub leftward : Pen → List ℕ → List ℕ
leftward pen label =
    pen.tip ∷ (replicate (38 - length label) pen.stroke ++ (label ++ (32 ∷ replicate 3 pen.lead)))

-- the way of an arrow that leaves this end (own)
abbrev pub way_from : End → Pen → List ℕ → List ℕ
way_from A pen label = rightward pen label
way_from B pen label = leftward pen label

-- the way of an arrow that reaches this end (own)
abbrev pub way_to : End → Pen → List ℕ → List ℕ
way_to A pen label = leftward pen label
way_to B pen label = rightward pen label

-- the last column of an arrow that points at this end: `<` or `>` (own)
abbrev pub arrowhead : End → ℕ
arrowhead A = 60
arrowhead B = 62

-- an arrow from one end to the other in one line (own)
abbrev pub straight_pen : End → Pen
straight_pen at = record { lead = 45; stroke = 45; tip = arrowhead at }

-- an arrow that ends in the way (own)
abbrev pub lost_pen : Pen
lost_pen = record { lead = 45; stroke = 45; tip = 88 }

-- an arrow whose arrival is in a later line (own)
abbrev pub leaving_pen : Pen
leaving_pen = record { lead = 45; stroke = 46; tip = 46 }

-- the pen of an arrow that reaches an end: of a segment that was made in an earlier line, of one
-- that was altered in the way, or of a datagram that no end of the run made (own)
abbrev pub arriving_pen : End → Brought → Pen
arriving_pen at (Segment n) = record { lead = 46; stroke = 45; tip = arrowhead at }
arriving_pen at (Altered n) = record { lead = 46; stroke = 126; tip = arrowhead at }
arriving_pen at Injected = record { lead = 32; stroke = 61; tip = arrowhead at }

-- the number of a segment (own)
abbrev pub number_label : ℕ → List ℕ
number_label n = codes " #" ++ decimal n

-- how many bytes a segment carries, where it carries some (own)
abbrev pub length_label : ℕ → List ℕ
length_label n = if n == 0 then [] else spaced (codes "len" ∷ decimal n ∷ [])

-- what is written on the arrow of a segment: its number, its flags, the key that it is under, the
-- key that it asks for, and how many bytes it carries (own)
abbrev pub sketch_label : Sketch → List ℕ
sketch_label s =
    number_label s.name
    ++ (spaced (flags_text s.flags ∷ codes "key" ∷ decimal s.key_id
    ∷ codes "asks" ∷ decimal s.rnext_key_id ∷ []) ++ length_label s.length)

-- a word, where it holds (own)
abbrev pub word_if : Bool → List ℕ → List ℕ
word_if true word = word
word_if false word = []

-- what is written on the arrow of a segment that was made in an earlier line: whether it comes
-- again, and whether it comes after one that was made later (own)
abbrev pub arrival_label : End → (earlier : List Rung) → Brought → List ℕ
arrival_label e earlier (Segment n) =
    number_label n
    ++ (word_if (has_come n earlier) (codes " again")
    ++ word_if (nat_lt n (newest_at e earlier)) (codes " late"))
arrival_label e earlier (Altered n) = number_label n ++ codes " altered"
arrival_label e earlier Injected = codes " injected"

-- the words for an answer to an arrival (own)
abbrev pub answer_margin : Arrival → List ℕ
answer_margin answer = spaced (answer_texts answer)

-- this rung is a clock of the end b (own)
abbrev pub is_clock_of_b : Rung → Bool
is_clock_of_b (Clock e seconds) = same_end e B
is_clock_of_b (Made e s transmission) = false
is_clock_of_b (Came e what answer) = false
is_clock_of_b (Call e d reply) = false
is_clock_of_b (Turned e phase) = false

-- this delivery is of the segment that the other end made (own)
abbrev pub meets : End → Sketch → Option Delivery → Bool
meets e s None = false
meets e s (Some d) = not (same_end e d.at) && (s.name == d.name)

-- a rung and the one behind it are one line: the clocks of a and of b, or a segment that comes as
-- soon as it is made (own)
abbrev pub is_one_line : Rung → Rung → Bool
is_one_line (Clock e seconds) next = same_end e A && is_clock_of_b next
is_one_line (Made e s transmission) next = meets e s (delivery_of next)
is_one_line (Came e what answer) next = false
is_one_line (Call e d reply) next = false
is_one_line (Turned e phase) next = false

-- the first of rungs, if there is one (own)
abbrev pub first_rung : List Rung → Option Rung
first_rung [] = None
first_rung (r ∷ rs) = Some r

-- a rung is one line with the next, if there is one (own)
abbrev pub is_one_line_next : Rung → Option Rung → Bool
is_one_line_next r None = false
is_one_line_next r (Some next) = is_one_line r next

-- a rung is in the line of the one before it, if there is one (own)
abbrev pub is_in_line : Option Rung → Rung → Bool
is_in_line None r = false
is_in_line (Some before) r = is_one_line before r

-- the end at which a rung happens (own)
abbrev pub rung_end : Rung → End
rung_end (Clock e seconds) = e
rung_end (Made e s transmission) = e
rung_end (Came e what answer) = e
rung_end (Call e d reply) = e
rung_end (Turned e phase) = e

-- what a rung makes comes in these rungs; true where it makes none (own)
abbrev pub rung_comes : (all : List Rung) → Rung → Bool
rung_comes all (Clock e seconds) = true
rung_comes all (Made e s transmission) = has_come s.name all
rung_comes all (Came e what answer) = true
rung_comes all (Call e d reply) = true
rung_comes all (Turned e phase) = true

-- the words beside a rung, which makes a segment that comes, or none (own)
abbrev pub rung_margin : (comes : Bool) → Rung → List ℕ
rung_margin comes (Clock e seconds) = clock_margin seconds
rung_margin comes (Made e s transmission) = making_word transmission ++ fate_word comes
rung_margin comes (Came e what answer) = answer_margin answer
rung_margin comes (Call e d reply) = call_margin d reply
rung_margin comes (Turned e phase) = phase_margin phase

-- the words of the next rung, where it is one line with this one (own)
abbrev pub other_margin : Rung → Option Rung → List ℕ
other_margin r None = []
other_margin r (Some next) = if is_one_line r next then rung_margin true next else []

-- the pen of a segment that was made: it comes at once, later, or never (own)
abbrev pub made_pen : End → (comes at_once : Bool) → Pen
made_pen e comes at_once =
    if at_once then straight_pen (other e) else (if comes then leaving_pen else lost_pen)

-- the way of a rung (own)
abbrev pub rung_way : (comes at_once : Bool) → (earlier : List Rung) → Rung → List ℕ
rung_way comes at_once earlier (Clock e seconds) = blank_way
rung_way comes at_once earlier (Made e s transmission) =
    way_from e (made_pen e comes at_once) (sketch_label s)
rung_way comes at_once earlier (Came e what answer) =
    way_to e (arriving_pen e what) (arrival_label e earlier what)
rung_way comes at_once earlier (Call e d reply) = blank_way
rung_way comes at_once earlier (Turned e phase) = blank_way

-- the line of a rung, with the next one where it is of both (own)
abbrev pub rung_line : (all earlier : List Rung) → Rung → Option Rung → List ℕ
rung_line all earlier r next =
    let comes = rung_comes all r in
    line_at (rung_end r) (rung_margin comes r)
    (rung_way comes (is_one_line_next r next) earlier r) (other_margin r next)

-- the line of a rung, where it isn't in the line before (own)
abbrev pub rung_text : (all earlier : List Rung) → Rung → Option Rung → List ℕ
rung_text all earlier r next =
    if is_in_line (first_rung earlier) r then [] else rung_line all earlier r next

-- the lines of rungs behind earlier ones, the newest first (own)
abbrev pub rungs_text : (all earlier later : List Rung) → List ℕ
rungs_text all earlier [] = []
rungs_text all earlier (r ∷ rs) =
    rung_text all earlier r (first_rung rs) ++ rungs_text all (r ∷ earlier) rs

-- the names of the two ends above their strokes (own)
abbrev pub ladder_head : List ℕ
ladder_head = line_at A (codes " a") blank_way (codes " b")

-- the text of a ladder (own)
unfoldable pub ladder_text : List Rung → List ℕ
ladder_text rs = ladder_head ++ rungs_text rs [] rs
