-- A node whose rows have no lifetimes, and which is reconfigured at one time: until then it sends
-- with one row, from then on with another, and it accepts both throughout. Between which times that
-- may be. Its tops are `switched` and `reconfiguring_text`.
use Rattle.std.specs.Prelude.{ℕ, ◌+◌, ◌-◌, ◌==◌, ◌&&◌, not, max, min, nat_le, nat_lt, Bool, List}
use Rattle.std.specs.Prelude.{[], ◌∷◌, ◌++◌, codes, decimal, Option, Some, None, if◌then◌else◌}
use Rattle.std.specs.List.{find}
use Rattle.book_base.specs.declared.address.Pair.{Pair}
use Rattle.book_base.specs.declared.end.End.{End}
use Rattle.book_keys.specs.declared.lifetime.Lifetime.{Lifetime}
use Rattle.book_keys.specs.declared.plan.Plan.{Plan}
use Rattle.book_keys.specs.Lifetimes.{contains, greatest_time}
use Rattle.book_keys.specs.Plans.{accepts_from}
use Rattle.book_keys.specs.Rows.{Row, sends_for}
use Rattle.book_plans.specs.declared.finding.Finding.{Finding}
use Rattle.book_plans.specs.declared.finding.Finding.TheVariants as finding
use Rattle.book_plans.specs.Ways.{changed_row, sending_in}
use Rattle.book_scope_plan.specs.CalendarTexts.{are_both_ends, row_numbered}
use Rattle.book_scope_plan.specs.FindingTexts.{Facing, facing_at, row_name, text_if, times_text}
use Rattle.book_scope_plan.specs.WayTexts.{SentRow}

-- a lifetime neither of whose ends is given (RFC 7210, section 2)
abbrev pub is_unbounded : Lifetime → Bool
is_unbounded l = (l.first == 0) && nat_le greatest_time l.last

-- a row sends for the connection and has no lifetimes (own)
abbrev pub is_timeless : Pair → Row → Bool
is_timeless pair r = sends_for pair r && (is_unbounded r.sending && is_unbounded r.accepting)

-- a node's rows where from FROM until just before the time it sends with the old row, and from the
-- time until TO with the new one; both are given by their numbers (own)
abbrev pub switched : Plan → (old new time : ℕ) → List Row → List Row
switched plan n m time rows =
    changed_row (sending_in (record { first = plan.from; last = time - 1 })) n 1
    (changed_row (sending_in (record { first = time; last = plan.to })) m 1 rows)

-- a row of the other end accepts what a row sends, and does so at the time (own)
abbrev pub takes_at : Pair → (sending : Row) → (time : ℕ) → (other : Row) → Bool
takes_at pair r time o = accepts_from pair r o && contains o.accepting time

-- the first row of the other end that accepts what the old row sends from LEAD before FROM (own)
abbrev pub old_taker : Facing → Row → Option Row
old_taker f r = find (takes_at f.pair r (f.plan.from - f.plan.lead)) f.other.rows

-- the first row of the other end that accepts what the new row sends until LAG after TO (own)
abbrev pub new_taker : Facing → Row → Option Row
new_taker f r =
    find (takes_at f.pair r (min greatest_time (f.plan.to + f.plan.lag))) f.other.rows

-- the first time from which the other end's row accepts LEAD before; the old row sends first (own)
abbrev pub earliest_switch : Plan → (other : Row) → ℕ
earliest_switch plan o = max (plan.from + 1) (o.accepting.first + plan.lead)

-- the last time until just before which the other end's row accepts LAG after; the new row sends
-- last (own)
abbrev pub latest_switch : Plan → (other : Row) → ℕ
latest_switch plan o =
    if nat_le greatest_time o.accepting.last then plan.to
    else min plan.to (o.accepting.last + 1 - plan.lag)

-- the times from the first to the last, if any (own)
abbrev pub span_between : (first last : ℕ) → Option Lifetime
span_between a b = if nat_le a b then Some (record { first = a; last = b }) else None

-- the times by the rows of the other end that accept, if any (own)
abbrev pub span_by : Plan → (old_taker new_taker : Option Row) → Option Lifetime
span_by plan (Some x) (Some y) = span_between (earliest_switch plan y) (latest_switch plan x)
span_by plan _ _ = None

-- the times at which the node of a connection, which is given as that node sees it, may begin to
-- send with the new row in place of the old one (own)
abbrev pub switch_span : Facing → (old new : Row) → Option Lifetime
switch_span f r o = span_by f.plan (old_taker f r) (new_taker f o)

-- from which row to which a node is to be reconfigured, and when (own)
unfoldable pub switch_line : Facing → (old new : ℕ) → Lifetime → List ℕ
switch_line f n m s =
    codes "  or reconfigure " ++ (f.node.name ++ (codes " from row " ++ (decimal n
    ++ (codes " to row " ++ (decimal m ++ (codes " at a time from " ++ (times_text s.first s.last
    ++ codes ", accepting both throughout\n")))))))

-- that it can't be (own)
unfoldable pub no_switch_line : Facing → List ℕ
no_switch_line f =
    codes "  at no time can " ++ (f.node.name ++ (codes " be reconfigured: "
    ++ (f.other.name ++ codes " doesn't accept both rows for long enough\n")))

-- the first of two spans, told with the rows in its order; or that there is none (own)
abbrev pub switch_text : Facing → (one other : ℕ) → (there back : Option Lifetime) → List ℕ
switch_text f n m (Some s) back = switch_line f n m s
switch_text f n m None (Some s) = switch_line f m n s
switch_text f n m None None = no_switch_line f

-- what is said of two rows that aren't accepted for long enough, where both have no lifetimes (own)
abbrev pub two_rows_text : Facing → (one other : ℕ) → (first second : Option Row) → List ℕ
two_rows_text f n m (Some r) (Some o) =
    text_if (is_timeless f.pair r && is_timeless f.pair o)
    (switch_text f n m (switch_span f r o) (switch_span f o r))
two_rows_text f n m _ _ = []

-- what is said of two rows of a node by their numbers (own)
abbrev pub timeless_text : Facing → (one other : ℕ) → List ℕ
timeless_text f n m =
    text_if (nat_lt n m)
    (two_rows_text f n m (row_numbered f.node.rows n) (row_numbered f.node.rows m))

-- what is said of two findings on a connection, which is given as end a sees it: where two rows of
-- one node aren't accepted for long enough, when it may be reconfigured (own)
abbrev pub two_findings_text : Facing → (one other : Finding) → List ℕ
two_findings_text f (finding.ShortAccept end n) (finding.ShortAccept far m) =
    text_if (not (are_both_ends end far)) (timeless_text (facing_at end f) n m)
two_findings_text f one two = []

-- the same of all findings, where there are two (own)
abbrev pub reconfiguring_text : Facing → List Finding → List ℕ
reconfiguring_text f (one ∷ two ∷ []) = two_findings_text f one two
reconfiguring_text f fs = []
