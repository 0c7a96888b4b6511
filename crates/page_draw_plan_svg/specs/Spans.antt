-- Where a time stands in a picture, and which times a bar and a mark show. Its tops are
-- `time_column`, `bar_span` and `finding_span`.
use Rattle.std.specs.Prelude.{ℕ, ◌+◌, ◌-◌, ◌*◌, ◌/◌, ◌≤◌, ◌&&◌, max, min, nat_le, Bool, Option}
use Rattle.std.specs.Prelude.{Some, None, if◌then◌else◌}
use Rattle.book_base.specs.declared.address.Pair.{Pair}
use Rattle.book_scope_plan.specs.declared.duty.Duty.{Duty}
use Rattle.book_scope_plan.specs.declared.duty.Duty.TheVariants.{Accepts, Sends}
use Rattle.book_scope_plan.specs.declared.slice.Slice.{Slice}
use Rattle.book_scope_plan.specs.Bars.{pair_at}
use Rattle.book_scope_plan.specs.Slices.{slice_between}
use Rattle.book_keys.specs.declared.lifetime.Lifetime.{Lifetime}
use Rattle.book_keys.specs.Rows.{Row, Table, matches, receives, sends_for}
use Rattle.book_plans.specs.declared.finding.Finding.{Finding}
use Rattle.book_plans.specs.declared.finding.Finding.TheVariants as finding
use Rattle.book_scope_plan.specs.CalendarTexts.{row_numbered, side_of}

-- how wide a whole time is drawn (own)
abbrev pub time_width : ℕ
time_width = 760

-- the column of a moment of a time that is drawn, by the seconds since its first: from 20 on, and
-- 780 at its end (own)
unfoldable pub time_column : Slice → (moment : ℕ) → ℕ
time_column time moment =
    20 + min time_width ((moment - time.first) * time_width / (time.last - time.first + 1))

-- how wide some of the seconds of a time are drawn, at least one column (own)
unfoldable pub span_width : (time span : Slice) → ℕ
span_width time span = max 1 (time_column time (span.last + 1) - time_column time span.first)

-- the lifetime for what a row does (RFC 7210, section 2)
abbrev pub duty_lifetime : Duty → Row → Lifetime
duty_lifetime Accepts r = r.accepting
duty_lifetime Sends r = r.sending

-- the row does this for the pair, at whatever time (RFC 7210, section 3)
abbrev pub does_for : Pair → Duty → Row → Bool
does_for pair Accepts r = matches r pair && receives r.direction
does_for pair Sends r = sends_for pair r

-- the seconds that a lifetime and a slice have in common (own)
abbrev pub common_span : Lifetime → Slice → Option Slice
common_span l s =
    if nat_le (max l.first s.first) (min l.last s.last)
    then Some (slice_between (max l.first s.first) (min l.last s.last))
    else None

-- the seconds of a time in which a row does this for the pair (RFC 7210, section 3)
abbrev pub bar_span : Pair → Duty → Row → Slice → Option Slice
bar_span pair duty r time =
    if does_for pair duty r then common_span (duty_lifetime duty r) time else None

-- the time is one of these seconds; none is of no seconds (own)
abbrev pub IsWithin : Option Slice → ℕ → Type 0
IsWithin None time = ⊥
IsWithin (Some s) time = (s.first ≤ time) × (time ≤ s.last)

-- the seconds of a time in which the row that was found may send (RFC 7210, section 3)
abbrev pub sending_span : Pair → Slice → Option Row → Option Slice
sending_span pair time None = None
sending_span pair time (Some r) = bar_span pair Sends r time

-- the seconds of a time at which the finding is so: those in which the row that isn't met may send,
-- or the gap (own)
abbrev pub finding_span : (a b : Table) → Pair → Slice → Finding → Option Slice
finding_span a b pair time (finding.NoPeerRow end n) =
    sending_span (pair_at end pair) time (row_numbered (side_of end a b).rows n)
finding_span a b pair time (finding.ShortAccept end n) =
    sending_span (pair_at end pair) time (row_numbered (side_of end a b).rows n)
finding_span a b pair time (finding.Gap end first last) = Some (slice_between first last)
