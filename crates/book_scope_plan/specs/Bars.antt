-- The planned rollover of a connection as bars over time: a bar for each row and what it does, and
-- a line that marks what is wrong. Our own format. Its top is `drawings_text`.
use Rattle.std.specs.Prelude.{ℕ, ◌+◌, ◌-◌, ◌&&◌, nat_le, nat_lt, Bool, true, false, List, [], ◌∷◌}
use Rattle.std.specs.Prelude.{◌++◌, length, flat_map, codes, decimal, Option, Some, None}
use Rattle.std.specs.Prelude.{option_map, if◌then◌else◌}
use Rattle.std.specs.List.{list_any}
use Rattle.book_base.specs.declared.address.Pair.{Pair}
use Rattle.book_base.specs.declared.end.End.{End}
use Rattle.book_base.specs.declared.end.End.TheVariants.{A, B}
use Rattle.book_scope_plan.specs.declared.bar.Bar.{Bar}
use Rattle.book_scope_plan.specs.declared.duty.Duty.{Duty}
use Rattle.book_scope_plan.specs.declared.duty.Duty.TheVariants.{Accepts, Sends}
use Rattle.book_scope_plan.specs.declared.duty.Filling.{Filling}
use Rattle.book_scope_plan.specs.declared.duty.Filling.TheVariants.{Never, Partly, Wholly}
use Rattle.book_scope_plan.specs.declared.slice.Slice.{Slice}
use Rattle.book_scope_plan.specs.BarOrders.{bars_of, is_filled, plan_time, row_filling}
use Rattle.book_scope_plan.specs.Slices.{slice_width, slices_of}
use Rattle.book_keys.specs.declared.plan.Plan.{Plan}
use Rattle.book_keys.specs.Plans.{mirrored}
use Rattle.book_keys.specs.Rows.{Row, Table}
use Rattle.book_lines.specs.Said.{Said}
use Rattle.book_plans.specs.declared.finding.Finding.{Finding}
use Rattle.book_plans.specs.declared.finding.Finding.TheVariants as finding
use Rattle.book_scope_plan.specs.CalendarTexts.{row_numbered, side_of}
use Rattle.book_scope_plan.specs.FindingTexts.{one_if, text_if, times_text}
use Rattle.book_scope_plan.specs.PlanTexts.{connection_line, has_none, is_good_plan, missing_text}
use Rattle.book_scope_plan.specs.PlanTexts.{node_with, plan_findings}

-- the byte of a bar's slice: `#`, `+` or a space (own)
abbrev pub filling_byte : Filling → ℕ
filling_byte Wholly = 35
filling_byte Partly = 43
filling_byte Never = 32

-- a line of the picture: a byte for each slice, and what it is (own)
unfoldable pub bar_line : (bytes label : List ℕ) → List ℕ
bar_line bytes label = codes "  |" ++ (bytes ++ (codes "| " ++ (label ++ 10 ∷ [])))

-- the byte of a row's bar for a slice (own)
abbrev pub bar_byte : Pair → Duty → Row → Slice → List ℕ
bar_byte pair duty r s = filling_byte (row_filling pair duty r s) ∷ []

-- the bytes of a row's bar (own)
abbrev pub bar_bytes : Pair → Duty → Row → List Slice → List ℕ
bar_bytes pair duty r slices = flat_map (bar_byte pair duty r) slices

-- the id under which a row does this (RFC 5925, section 3.1)
abbrev pub duty_id : Duty → Row → ℕ
duty_id Accepts r = r.recv_id
duty_id Sends r = r.send_id

-- what a row does (own)
abbrev pub duty_words : Duty → List ℕ
duty_words Accepts = codes ") accepts"
duty_words Sends = codes ") sends"

-- what a row does, with the id under which it does (own)
unfoldable pub duty_text : Duty → Row → List ℕ
duty_text duty r = codes " (KeyID " ++ (decimal (duty_id duty r) ++ duty_words duty)

-- what stands beside the bar of a row of this number, at the node of this name (own)
unfoldable pub bar_label : (name : List ℕ) → ℕ → Duty → Row → List ℕ
bar_label name n duty r =
    name ++ (codes " row " ++ (decimal n ++ duty_text duty r))

-- the pair as this end sees it, which is given as end a does (own)
abbrev pub pair_at : End → Pair → Pair
pair_at A pair = pair
pair_at B pair = mirrored pair

-- the row that was found may send for the pair at some time of the slice (own)
abbrev pub may_send_in : Pair → Slice → Option Row → Bool
may_send_in pair s None = false
may_send_in pair s (Some r) = is_filled (row_filling pair Sends r s)

-- the row of this number may send at some time of the slice (own)
abbrev pub numbered_sends : List Row → Pair → Slice → ℕ → Bool
numbered_sends rows pair s n = may_send_in pair s (row_numbered rows n)

-- the finding is seen in the slice: a row that isn't met may send in it, or a gap has a time of it
-- (own)
abbrev pub is_seen : (a b : Table) → Pair → Slice → Finding → Bool
is_seen a b pair s (finding.NoPeerRow end n) =
    numbered_sends (side_of end a b).rows (pair_at end pair) s n
is_seen a b pair s (finding.ShortAccept end n) =
    numbered_sends (side_of end a b).rows (pair_at end pair) s n
is_seen a b pair s (finding.Gap end first last) = nat_le first s.last && nat_le s.first last

-- the byte of a slice in which something is wrong, or not: `!` or a space (own)
abbrev pub wrong_byte : Bool → ℕ
wrong_byte true = 33
wrong_byte false = 32

-- one of the findings is seen in the slice (own)
abbrev pub is_marked : (a b : Table) → Pair → List Finding → Slice → Bool
is_marked a b pair fs s = list_any (is_seen a b pair s) fs

-- the byte that marks a slice in which one of the findings is seen (own)
unfoldable pub slice_mark : (a b : Table) → Pair → List Finding → Slice → List ℕ
slice_mark a b pair fs s = wrong_byte (is_marked a b pair fs s) ∷ []

-- the bytes that mark the slices in which one of the findings is seen (own)
abbrev pub wrong_bytes : (a b : Table) → Pair → List Finding → List Slice → List ℕ
wrong_bytes a b pair fs slices = flat_map (slice_mark a b pair fs) slices

-- from when to when the bars go, and how many seconds a slice has (own)
unfoldable pub scale_words : Plan → List ℕ
scale_words plan =
    times_text plan.from plan.to
    ++ (codes ", a column is " ++ (decimal (slice_width plan.from plan.to) ++ codes " s"))

-- the line that says so (own)
unfoldable pub scale_line : Plan → List ℕ
scale_line plan = codes "  " ++ (scale_words plan ++ 10 ∷ [])

-- a bar with what is drawn of it: its node's name, the pair as that sees it, the time that is
-- drawn, the number of its row, the row, and what of it the bar shows (own)
pub record ShownBar : Type 0 where
  pub name : List ℕ
  pub pair : Pair
  pub time : Slice
  pub number : ℕ
  pub row : Row
  pub duty : Duty

-- a bar of this row of a node of this name, which sees the pair so (own)
abbrev pub bar_shown : (name : List ℕ) → Pair → Slice → Bar → Row → ShownBar
bar_shown name pair time bar r = record {
  name = name;
  pair = pair;
  time = time;
  number = bar.number;
  row = r;
  duty = bar.duty;
}

-- a bar of the nodes of these tables as it is drawn, where its row is there (own)
abbrev pub shown_bar : (a b : Table) → Pair → Slice → Bar → Option ShownBar
shown_bar a b pair time bar =
    option_map (bar_shown (side_of bar.end a b).name (pair_at bar.end pair) time bar)
    (row_numbered (side_of bar.end a b).rows bar.number)

-- the line of a bar over these slices (own)
abbrev pub drawn_bar : List Slice → Option ShownBar → List ℕ
drawn_bar slices None = []
drawn_bar slices (Some s) =
    bar_line (bar_bytes s.pair s.duty s.row slices) (bar_label s.name s.number s.duty s.row)

-- the line of a bar (own)
abbrev pub bar_text : (a b : Table) → Pair → Plan → Bar → List ℕ
bar_text a b pair plan bar =
    drawn_bar (slices_of plan.from plan.to) (shown_bar a b pair (plan_time plan) bar)

-- the line that marks what is wrong, where something is (own)
abbrev pub wrong_text : (a b : Table) → Pair → Plan → List Finding → List ℕ
wrong_text a b pair plan fs =
    if has_none fs then []
    else bar_line (wrong_bytes a b pair fs (slices_of plan.from plan.to)) (codes "wrong")

-- the bars of a connection between two nodes, and below them what is wrong (own)
unfoldable pub both_bars : (a b : Table) → Pair → Plan → List Finding → List ℕ
both_bars a b pair plan fs =
    scale_line plan
    ++ (flat_map (bar_text a b pair plan) (bars_of a b pair plan) ++ wrong_text a b pair plan fs)

-- the bars of a connection by the nodes of its ends (own)
abbrev pub nodes_bars : (a b : Option Table) → List Table → Plan → Pair → List ℕ
nodes_bars (Some a) (Some b) tables plan pair =
    both_bars a b pair plan (plan_findings tables plan pair)
nodes_bars a b tables plan pair =
    missing_text a pair.local.address ++ missing_text b pair.remote.address

-- a connection as it is drawn (own)
unfoldable pub drawing_text : List Table → Plan → Pair → List ℕ
drawing_text tables plan pair =
    connection_line pair
    ++ nodes_bars (node_with tables pair.local.address) (node_with tables pair.remote.address)
    tables plan pair

-- of how many of the connections nothing is wrong with the plan (own)
abbrev pub good_plans : List Table → Plan → List (Said Pair) → ℕ
good_plans tables plan [] = 0
good_plans tables plan (s ∷ said) =
    one_if (is_good_plan tables plan s.value) + good_plans tables plan said

-- how many connections there are, and how many are wrong, where with so many nothing is (own)
unfoldable pub summary_words : (all good : ℕ) → List ℕ
summary_words all good =
    (decimal all ++ codes " connections, ")
    ++ (decimal (all - good) ++ codes " of them wrong")

-- the line that says so, where there are two or more (own)
unfoldable pub summary_line : (all good : ℕ) → List ℕ
summary_line all good = text_if (nat_lt 1 all) (summary_words all good ++ 10 ∷ [])

-- the connections as they are drawn, one after another, and above them how many they are (own)
unfoldable pub drawings_text : List Table → Plan → List (Said Pair) → List ℕ
drawings_text tables plan said =
    summary_line (length said) (good_plans tables plan said)
    ++ flat_map (λ s. drawing_text tables plan s.value) said
