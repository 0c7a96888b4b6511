-- A connection has only so many bars.
use Rattle.std.proofs.Common.{◌≡◌, ℕ, zero, suc, ◌+◌, ◌*◌, ◌≤◌, Bool, true, false, List, [], ◌∷◌, ◌++◌, length, Some, refl, sym, ap, ◌∙◌, append_assoc, arith, if◌then◌else◌}
use Rattle.std.specs.Prelude.{slice_get}
use Rattle.std.proofs.lemmas.List.{length-append}
use Rattle.book_base.specs.declared.address.Pair.{Pair}
use Rattle.book_base.specs.declared.end.End.{End}
use Rattle.book_base.specs.declared.end.End.TheVariants.{A, B}
use Rattle.book_scope_plan.specs.declared.bar.Bar.{Bar}
use Rattle.book_scope_plan.specs.declared.duty.Duty.TheVariants.{Accepts, Sends}
use Rattle.book_scope_plan.specs.BarOrders.{HasPart, OneWay, accept_bars, accepts_alone, accepts_under, all_sending_bars, bar_if, bars_of, bars_of_way, is_doing_in, sending_bars, oneway_from}
use Rattle.book_keys.specs.declared.plan.Plan.{Plan}
use Rattle.book_keys.specs.Rows.{Row, Table, row_limit}
use Rattle.book_scope_plan.specs.CalendarTexts.{side_of}

if_few : (b : Bool) (end : End) (n m : ℕ) (bars : List Bar) → length bars ≤ m → length (bar_if b end n Accepts ++ bars) ≤ suc m
if_few true end n m bars few = omega arith
if_few false end n m bars few = omega arith

accept_few : (test : Row → Bool) (end : End) (n : ℕ) (rs : List Row) → length (accept_bars test end n rs) ≤ length rs
accept_few test end n [] = omega arith
accept_few test end n (r ∷ rs) = if_few (test r) end n (length rs) (accept_bars test end (n + 1) rs) (accept_few test end (n + 1) rs)

with_few : (b : Bool) (bar : Bar) (bars : List Bar) (m : ℕ) → length bars ≤ m → length (if b then bar ∷ bars else []) ≤ suc m
with_few true bar bars m few = omega arith
with_few false bar bars m few = omega arith

sending_few : (w : OneWay) (n : ℕ) (r : Row) → length (sending_bars w n r) ≤ suc (length w.others)
sending_few w n r =
    with_few (is_doing_in w.pair w.time Sends r) (record { end = w.sender; number = n; duty = Sends })
    (accept_bars (accepts_under w.facing w.time r.send_id) (side_of w.sender B A) 1 w.others) (length w.others)
    (accept_few (accepts_under w.facing w.time r.send_id) (side_of w.sender B A) 1 w.others)

all_sending_few : (w : OneWay) (n : ℕ) (rs : List Row) → length w.others ≤ 64 → length (all_sending_bars w n rs) ≤ 65 * length rs
all_sending_few w n [] few = omega arith
all_sending_few w n (r ∷ rs) few =
    let both = length-append (sending_bars w n r) (all_sending_bars w (n + 1) rs) in
    let one = sending_few w n r in
    let more = all_sending_few w (n + 1) rs few in
    omega arith

way_few : (w : OneWay) (rs : List Row) → length w.others ≤ 64 → length rs ≤ 64 → length (bars_of_way w rs) ≤ 4224
way_few w rs few less =
    let alone = accepts_alone w.facing w.pair w.time rs in
    let both = length-append (all_sending_bars w 1 rs) (accept_bars alone (side_of w.sender B A) 1 w.others) in
    let one = all_sending_few w 1 rs few in
    let two = accept_few alone (side_of w.sender B A) 1 w.others in
    omega arith

pub bars_few : (a b : Table) (pair : Pair) (plan : Plan) → length a.rows ≤ row_limit → length b.rows ≤ row_limit → length (bars_of a b pair plan) ≤ 8448
unfolding bars_of
bars_few a b pair plan low high =
    let one = oneway_from A b.rows pair plan in
    let two = oneway_from B a.rows pair plan in
    let both = length-append (bars_of_way one a.rows) (bars_of_way two b.rows) in
    let first = way_few one a.rows high low in
    let second = way_few two b.rows low high in
    omega arith

-- ---- what is compared

later_part : (one part all : List Bar) → HasPart part all → HasPart part (one ++ all)
later_part one part all h =
    (one ++ h.0, h.1, ap (λ (x : List Bar). one ++ x) h.2 ∙ sym (append_assoc one h.0 (part ++ h.1)))

earlier_part : (one part all : List Bar) → HasPart part all → HasPart part (all ++ one)
earlier_part one part all h =
    (h.0, h.1 ++ one, ap (λ (x : List Bar). x ++ one) h.2 ∙ append_assoc h.0 (part ++ h.1) one ∙ ap (λ (x : List Bar). h.0 ++ x) (append_assoc part h.1 one))

some_part : (w : OneWay) (n k : ℕ) (rs : List Row) (r : Row) → slice_get rs k ≡ Some r → HasPart (sending_bars w (n + k) r) (all_sending_bars w n rs)
some_part w n k [] r is = absurd (cc)
some_part w n zero (s ∷ rs) r is =
    let same : s ≡ r = cc in
    let number : n + 0 ≡ n = omega arith in
    rw (number, sym same) ([], all_sending_bars w (n + 1) rs, refl)
some_part w n (suc k) (s ∷ rs) r is =
    let number : n + suc k ≡ n + 1 + k = omega arith in
    rw number (later_part (sending_bars w n s) (sending_bars w (n + 1 + k) r) (all_sending_bars w (n + 1) rs) (some_part w (n + 1) k rs r is))

way_part : (w : OneWay) (k : ℕ) (rs : List Row) (r : Row) → slice_get rs k ≡ Some r → HasPart (sending_bars w (1 + k) r) (bars_of_way w rs)
way_part w k rs r is =
    earlier_part (accept_bars (accepts_alone w.facing w.pair w.time rs) (side_of w.sender B A) 1 w.others) (sending_bars w (1 + k) r) (all_sending_bars w 1 rs)
    (some_part w 1 k rs r is)

pub part_of_a : (a b : Table) (pair : Pair) (plan : Plan) (k : ℕ) (r : Row) → slice_get a.rows k ≡ Some r
    → HasPart (sending_bars (oneway_from A b.rows pair plan) (1 + k) r) (bars_of a b pair plan)
unfolding bars_of
part_of_a a b pair plan k r is =
    let there = oneway_from A b.rows pair plan in
    earlier_part (bars_of_way (oneway_from B a.rows pair plan) b.rows) (sending_bars there (1 + k) r) (bars_of_way there a.rows) (way_part there k a.rows r is)

pub part_of_b : (a b : Table) (pair : Pair) (plan : Plan) (k : ℕ) (r : Row) → slice_get b.rows k ≡ Some r
    → HasPart (sending_bars (oneway_from B a.rows pair plan) (1 + k) r) (bars_of a b pair plan)
unfolding bars_of
part_of_b a b pair plan k r is =
    let back = oneway_from B a.rows pair plan in
    later_part (bars_of_way (oneway_from A b.rows pair plan) a.rows) (sending_bars back (1 + k) r) (bars_of_way back b.rows) (way_part back k b.rows r is)
