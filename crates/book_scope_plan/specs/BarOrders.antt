-- Which bars a connection has, and in which order: what must be compared stands side by side. Its
-- top is `bars_of`.
use Rattle.std.specs.Prelude.{◌≡◌, ℕ, ◌+◌, ◌==◌, ◌&&◌, not, Bool, true, false, List, [], ◌∷◌, ◌++◌}
use Rattle.std.specs.Prelude.{if◌then◌else◌}
use Rattle.std.specs.List.{list_any}
use Rattle.book_base.specs.declared.address.Pair.{Pair}
use Rattle.book_base.specs.declared.end.End.{End}
use Rattle.book_base.specs.declared.end.End.TheVariants.{A, B}
use Rattle.book_scope_plan.specs.declared.bar.Bar.{Bar}
use Rattle.book_scope_plan.specs.declared.duty.Duty.{Duty}
use Rattle.book_scope_plan.specs.declared.duty.Duty.TheVariants.{Accepts, Sends}
use Rattle.book_scope_plan.specs.declared.duty.Filling.{Filling}
use Rattle.book_scope_plan.specs.declared.duty.Filling.TheVariants.{Never, Partly, Wholly}
use Rattle.book_scope_plan.specs.declared.slice.Slice.{Slice}
use Rattle.book_scope_plan.specs.Slices.{filling, slice_between}
use Rattle.book_keys.specs.declared.plan.Plan.{Plan}
use Rattle.book_keys.specs.Plans.{mirrored}
use Rattle.book_keys.specs.Rows.{Row, Table, acceptable, sendable}
use Rattle.book_scope_plan.specs.CalendarTexts.{side_of}

-- the row may do this for the pair at the time (RFC 7210, section 3)
abbrev pub is_doing : Pair → Duty → Row → ℕ → Bool
is_doing pair Accepts r time = acceptable pair time r
is_doing pair Sends r time = sendable pair time r

-- how what the row does fills a slice (own)
abbrev pub row_filling : Pair → Duty → Row → Slice → Filling
row_filling pair duty r s = filling (is_doing pair duty r) s

-- something is filled at all (own)
abbrev pub is_filled : Filling → Bool
is_filled Never = false
is_filled Partly = true
is_filled Wholly = true

-- the row does this for the pair at some time of the slice (own)
abbrev pub is_doing_in : Pair → Slice → Duty → Row → Bool
is_doing_in pair time duty r = is_filled (row_filling pair duty r time)

-- a bar of a row of this end and number, where it is to be there (own)
abbrev pub bar_if : Bool → End → ℕ → Duty → List Bar
bar_if true end n duty = record { end = end; number = n; duty = duty } ∷ []
bar_if false end n duty = []

-- the row accepts at some time of the slice what comes under this id (RFC 5925, section 3.1)
abbrev pub accepts_under : Pair → Slice → (id : ℕ) → Row → Bool
accepts_under pair time id r = is_doing_in pair time Accepts r && (r.recv_id == id)

-- the row may send under this id at some time of the slice (RFC 5925, section 3.1)
abbrev pub sends_under : Pair → Slice → (id : ℕ) → Row → Bool
sends_under pair time id r = is_doing_in pair time Sends r && (r.send_id == id)

-- the row accepts at some time of the slice, and none of the other end's rows, which sees the pair
-- so, sends under its id at some time of it (own)
abbrev pub accepts_alone : (pair facing : Pair) → Slice → (senders : List Row) → Row → Bool
accepts_alone pair facing time senders r =
    is_doing_in pair time Accepts r && not (list_any (sends_under facing time r.recv_id) senders)

-- the bars of the rows of an end that accept and pass the test, the first having number n (own)
abbrev pub accept_bars : (Row → Bool) → End → ℕ → List Row → List Bar
accept_bars test end n [] = []
accept_bars test end n (r ∷ rs) =
    bar_if (test r) end n Accepts ++ accept_bars test end (n + 1) rs

-- what goes one way over a connection: the end that sends, the pair as it sees it, the pair as the
-- other end sees it, the time that is drawn, and the rows of the other end (own)
pub record OneWay : Type 0 where
  pub sender : End
  pub pair : Pair
  pub facing : Pair
  pub time : Slice
  pub others : List Row

-- the bar of a row that sends, and right after it those of the rows that accept under its id (own)
abbrev pub sending_bars : OneWay → ℕ → Row → List Bar
sending_bars w n r =
    if is_doing_in w.pair w.time Sends r then
    record { end = w.sender; number = n; duty = Sends }
    ∷ accept_bars (accepts_under w.facing w.time r.send_id) (side_of w.sender B A) 1 w.others
    else []

-- so for each of these rows, the first having number n (own)
abbrev pub all_sending_bars : OneWay → ℕ → List Row → List Bar
all_sending_bars w n [] = []
all_sending_bars w n (r ∷ rs) = sending_bars w n r ++ all_sending_bars w (n + 1) rs

-- the bars of one way, and after them those of the rows that accept where no row sends (own)
abbrev pub bars_of_way : OneWay → (rows : List Row) → List Bar
bars_of_way w rows =
    all_sending_bars w 1 rows
    ++ accept_bars (accepts_alone w.facing w.pair w.time rows) (side_of w.sender B A) 1 w.others

-- the time of a plan (own)
abbrev pub plan_time : Plan → Slice
plan_time plan = slice_between plan.from plan.to

-- what this end sends to the other one, which has these rows, over a pair as a sees it (own)
abbrev pub oneway_from : End → (others : List Row) → Pair → Plan → OneWay
oneway_from A others pair plan = record {
  sender = A;
  pair = pair;
  facing = mirrored pair;
  time = plan_time plan;
  others = others;
}
oneway_from B others pair plan = record {
  sender = B;
  pair = mirrored pair;
  facing = pair;
  time = plan_time plan;
  others = others;
}

-- the bars of a connection: what a sends to b, and what b sends to a (own)
unfoldable pub bars_of : (a b : Table) → Pair → Plan → List Bar
bars_of a b pair plan =
    bars_of_way (oneway_from A b.rows pair plan) a.rows
    ++ bars_of_way (oneway_from B a.rows pair plan) b.rows

-- a list of bars has this part (own)
abbrev pub HasPart : (part all : List Bar) → Type 0
HasPart part all = (before after : List Bar) × (all ≡ before ++ (part ++ after))
