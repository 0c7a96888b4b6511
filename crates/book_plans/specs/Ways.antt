-- Ways to mend what doesn't hold of a planned rollover: another lifetime of a row, and what stands
-- in its way. Its tops are `sending_obstacle` and `accepting_obstacle`.
use Rattle.std.specs.Prelude.{ℕ, ◌+◌, ◌-◌, ◌==◌, ◌&&◌, not, min, nat_le, nat_lt, Bool, true, false}
use Rattle.std.specs.Prelude.{List, [], ◌∷◌, Option, Some, None, if◌then◌else◌}
use Rattle.std.specs.List.{list_any}
use Rattle.book_base.specs.declared.address.Pair.{Pair}
use Rattle.book_base.specs.declared.end.End.TheVariants.{A}
use Rattle.book_plans.specs.declared.finding.Finding.{Finding}
use Rattle.book_plans.specs.declared.obstacle.Obstacle.{Obstacle}
use Rattle.book_plans.specs.declared.obstacle.Obstacle.TheVariants as obstacle
use Rattle.book_plans.specs.Findings.{accepting_in, gap_findings, wanted_accepting, widened}
use Rattle.book_keys.specs.declared.lifetime.Lifetime.{Lifetime}
use Rattle.book_keys.specs.declared.plan.Plan.{Plan}
use Rattle.book_keys.specs.Lifetimes.{greatest_time}
use Rattle.book_keys.specs.Overlaps.{overlaps}
use Rattle.book_keys.specs.Plans.{accepts_throughout}
use Rattle.book_keys.specs.Rows.{Row}

-- an end of a planned connection: its rows, those of the other end, the pair as it sees it (own)
pub record Side : Type 0 where
  pub rows : List Row
  pub others : List Row
  pub pair : Pair
  pub plan : Plan

-- a row with another SendLifetimeStart and SendLifetimeEnd (RFC 7210, section 2)
abbrev pub sending_in : Lifetime → Row → Row
sending_in l r = record r { sending = l }

-- the rows with that of number n changed, the first having number k (own)
abbrev pub changed_row : (Row → Row) → (n first : ℕ) → List Row → List Row
changed_row change n k [] = []
changed_row change n k (r ∷ rs) =
    (if k == n then change r else r) ∷ changed_row change n (k + 1) rs

-- the number of the first row but that of number n which this row overlaps, the first having
-- number k (own)
abbrev pub first_clash : Row → (n first : ℕ) → List Row → Option ℕ
first_clash r n k [] = None
first_clash r n k (o ∷ os) =
    if not (k == n) && overlaps r o then Some k else first_clash r n (k + 1) os

-- the row that is overlapped, or else what else stands in the way (own)
abbrev pub clash_or : Option ℕ → Option Obstacle → Option Obstacle
clash_or None more = more
clash_or (Some k) more = Some (obstacle.Overlap k)

-- there are none (own)
abbrev pub are_none : List Finding → Bool
are_none [] = true
are_none (f ∷ fs) = false

-- a lifetime that ends would be one that never does (own)
abbrev pub becomes_endless : (before after : Lifetime) → Bool
becomes_endless l m = nat_lt l.last greatest_time && nat_le greatest_time m.last

-- at each time of the plan the end has a row to send with, where its row of this number is
-- another (own)
abbrev pub keeps_sending : Side → ℕ → (Row → Row) → Bool
keeps_sending s n change =
    are_none (gap_findings A (changed_row change n 1 s.rows) s.pair s.plan.from s.plan.to)

-- some row of the other end accepts throughout what this row sends (own)
abbrev pub is_accepted : Side → Row → Bool
is_accepted s r = list_any (accepts_throughout s.pair s.plan.lead s.plan.lag r) s.others

-- what stands in the way of another send lifetime of the row of this number (own)
unfoldable pub sending_obstacle : Side → ℕ → Row → Lifetime → Option Obstacle
sending_obstacle s n r l =
    if nat_lt l.last l.first then Some obstacle.Empty
    else if becomes_endless r.sending l then Some obstacle.Endless
    else clash_or (first_clash (sending_in l r) n 1 s.rows)
    (if not (is_accepted s (sending_in l r)) then Some obstacle.Refused
    else if not (keeps_sending s n (sending_in l)) then Some obstacle.Gap
    else None)

-- what stands in the way of another accept lifetime of the row of this number among its
-- table's (own)
unfoldable pub accepting_obstacle : (rows : List Row) → ℕ → Row → Lifetime → Option Obstacle
accepting_obstacle rows n r l =
    if becomes_endless r.accepting l then Some obstacle.Endless
    else clash_or (first_clash (accepting_in l r) n 1 rows) None

-- when a row may send so that the other end's row accepts from so long before until so long
-- after (own)
abbrev pub fitting_sending : (lead lag : ℕ) → (sending other : Row) → Lifetime
fitting_sending lead lag r o = record {
  first = if nat_lt (wanted_accepting lead lag r).first o.accepting.first
      then min greatest_time (o.accepting.first + lead) else r.sending.first;
  last = if nat_lt o.accepting.last (wanted_accepting lead lag r).last
      then o.accepting.last - lag else r.sending.last;
}

-- when the other end's row accepts, and all the time that this row wants (own)
abbrev pub fitting_accepting : (lead lag : ℕ) → (sending other : Row) → Lifetime
fitting_accepting lead lag r o = widened o.accepting (wanted_accepting lead lag r)
