-- When something is wrong with the plan of a connection, second by second. Its top is
-- `is_wrong_at`.
use Rattle.std.specs.Prelude.{◌≡◌, ℕ, ◌≤◌, ◌&&◌, ◌||◌, not, Bool, true, List, is_some}
use Rattle.std.specs.List.{list_any}
use Rattle.book_base.specs.declared.address.Pair.{Pair}
use Rattle.book_scope_plan.specs.declared.slice.Slice.{Slice}
use Rattle.book_keys.specs.declared.plan.Plan.{Plan}
use Rattle.book_keys.specs.Plans.{has_sendable, mirrored, unmet_reason}
use Rattle.book_keys.specs.Rows.{Row, sendable}

-- the row may send for the pair at the time, and isn't met at the other end (RFC 7210, section 3,
-- and own)
abbrev pub sends_unmet : (others : List Row) → Pair → Plan → ℕ → Row → Bool
sends_unmet others pair plan time r =
    sendable pair time r && is_some (unmet_reason others pair plan.lead plan.lag r)

-- at the time an end has no row to send with, or may send with one that the other end doesn't
-- accept, or not for long enough (RFC 7210, section 3, and own)
abbrev pub is_wrong_from : (rows others : List Row) → Pair → Plan → ℕ → Bool
is_wrong_from rows others pair plan time =
    not (has_sendable rows pair time) || list_any (sends_unmet others pair plan time) rows

-- at the time this is so of one of the two ends of a connection (own)
abbrev pub is_wrong_at : (a_rows b_rows : List Row) → Pair → Plan → ℕ → Bool
is_wrong_at a b pair plan time =
    is_wrong_from a b pair plan time || is_wrong_from b a (mirrored pair) plan time

-- the test passes at one of the times of a slice (own)
abbrev pub PassesWithin : (ℕ → Bool) → Slice → Type 0
PassesWithin test s = (t : ℕ) × (s.first ≤ t) × (t ≤ s.last) × (test t ≡ true)
