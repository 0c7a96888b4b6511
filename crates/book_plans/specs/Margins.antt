-- The margins of a planned rollover: with which leads, and with which lags, two tables are
-- aligned. Its tops are `lead_margin_of` and `lag_margin_of`.
use Rattle.std.specs.Prelude.{◌≡◌, ◌↔◌, ℕ, ◌-◌, ◌≤◌, ◌==◌, max, min, nat_le, Bool, true, false}
use Rattle.std.specs.Prelude.{List, [], ◌∷◌, Option, Some, None, if◌then◌else◌}
use Rattle.std.specs.List.{AllByRecursion}
use Rattle.book_base.specs.declared.address.Pair.{Pair}
use Rattle.book_plans.specs.declared.margin.Margin.{Margin}
use Rattle.book_plans.specs.declared.margin.Margin.TheVariants.{UpTo, Any}
use Rattle.book_keys.specs.Lifetimes.{greatest_time}
use Rattle.book_keys.specs.declared.lint.LintAnswer.TheVariants as answer
use Rattle.book_keys.specs.declared.plan.Plan.{Plan}
use Rattle.book_keys.specs.Plans.{mirrored, accepts_throughout, Aligned, rows_at, lint_of}
use Rattle.book_keys.specs.Rows.{Row, Table, sends_for}

-- the number is within the margin; none is within no margin (own)
abbrev pub is_within : Option Margin → ℕ → Bool
is_within None n = false
is_within (Some Any) n = true
is_within (Some (UpTo most)) n = nat_le n most

-- what holds of a number holds of none, of each, or exactly of those up to the margin (own)
abbrev pub IsMargin : (ℕ → Type 0) → Option Margin → Type 0
IsMargin Holds None = (n : ℕ) → Holds n → ⊥
IsMargin Holds (Some Any) = (n : ℕ) → Holds n
IsMargin Holds (Some (UpTo most)) = (n : ℕ) → Holds n ↔ (n ≤ most)

-- the greater of two margins, no margin being the least (own)
abbrev pub wider : (one other : Option Margin) → Option Margin
wider None two = two
wider (Some Any) two = Some Any
wider (Some (UpTo one)) None = Some (UpTo one)
wider (Some (UpTo one)) (Some Any) = Some Any
wider (Some (UpTo one)) (Some (UpTo two)) = Some (UpTo (max one two))

-- the lesser of two margins (own)
abbrev pub narrower : (one other : Option Margin) → Option Margin
narrower None two = None
narrower (Some Any) two = two
narrower (Some (UpTo one)) None = None
narrower (Some (UpTo one)) (Some Any) = Some (UpTo one)
narrower (Some (UpTo one)) (Some (UpTo two)) = Some (UpTo (min one two))

-- the widest of this margin and those of the rows (own)
abbrev pub widest : (Row → Option Margin) → Option Margin → List Row → Option Margin
widest margin so_far [] = so_far
widest margin so_far (r ∷ rs) = widest margin (wider so_far (margin r)) rs

-- the narrowest of this margin and those of the rows (own)
abbrev pub narrowest : (Row → Option Margin) → Option Margin → List Row → Option Margin
narrowest margin so_far [] = so_far
narrowest margin so_far (r ∷ rs) = narrowest margin (narrower so_far (margin r)) rs

-- by how much accepting from this time on begins before sending from that time on; always, from 0
-- (own)
abbrev pub time_before : (accepted sent : ℕ) → Margin
time_before accepted sent = if accepted == 0 then Any else UpTo (sent - accepted)

-- by how much accepting until this time ends after sending until that time; always, at the last
-- (own)
abbrev pub time_after : (accepted sent : ℕ) → Margin
time_after accepted sent = if nat_le greatest_time accepted then Any else UpTo (accepted - sent)

-- the margin, where the test holds (own)
abbrev pub margin_where : Bool → Margin → Option Margin
margin_where true margin = Some margin
margin_where false margin = None

-- the leads with which, at this lag, the other end's row accepts throughout what this row sends
-- (own)
abbrev pub lead_by : Pair → ℕ → (sending other : Row) → Option Margin
lead_by pair lag r other =
    margin_where (accepts_throughout pair 0 lag r other)
    (time_before other.accepting.first r.sending.first)

-- the lags with which, at this lead, the other end's row accepts throughout what this row sends
-- (own)
abbrev pub lag_by : Pair → ℕ → (sending other : Row) → Option Margin
lag_by pair lead r other =
    margin_where (accepts_throughout pair lead 0 r other)
    (time_after other.accepting.last r.sending.last)

-- the leads with which, at this lag, the row is met; a row that doesn't send asks for nothing
-- (own)
abbrev pub lead_of_row : List Row → Pair → ℕ → Row → Option Margin
lead_of_row others pair lag r =
    if sends_for pair r then widest (lead_by pair lag r) None others else Some Any

-- the lags with which, at this lead, the row is met (own)
abbrev pub lag_of_row : List Row → Pair → ℕ → Row → Option Margin
lag_of_row others pair lead r =
    if sends_for pair r then widest (lag_by pair lead r) None others else Some Any

-- the leads with which, at this lag, each row of a sender's table is met in the receiver's (own)
abbrev pub lead_from : (rows others : List Row) → Pair → ℕ → Option Margin
lead_from rows others pair lag = narrowest (lead_of_row others pair lag) (Some Any) rows

-- the lags with which, at this lead, each row of a sender's table is met in the receiver's (own)
abbrev pub lag_from : (rows others : List Row) → Pair → ℕ → Option Margin
lag_from rows others pair lead = narrowest (lag_of_row others pair lead) (Some Any) rows

-- the leads with which, at this lag, both ends' tables are aligned (own)
abbrev pub lead_margin : (a_rows b_rows : List Row) → Pair → ℕ → Option Margin
lead_margin a b pair lag = narrower (lead_from a b pair lag) (lead_from b a (mirrored pair) lag)

-- the lags with which, at this lead, both ends' tables are aligned (own)
abbrev pub lag_margin : (a_rows b_rows : List Row) → Pair → ℕ → Option Margin
lag_margin a b pair lead = narrower (lag_from a b pair lead) (lag_from b a (mirrored pair) lead)

-- the leads by the tables of a key file (own)
abbrev pub lead_margin_of : List Table → Pair → ℕ → Option Margin
lead_margin_of tables pair lag =
    lead_margin (rows_at tables pair.local.address) (rows_at tables pair.remote.address) pair lag

-- the lags by the tables of a key file (own)
abbrev pub lag_margin_of : List Table → Pair → ℕ → Option Margin
lag_margin_of tables pair lead =
    lag_margin (rows_at tables pair.local.address) (rows_at tables pair.remote.address) pair lead

-- a row ends sending no earlier than it begins, and by the last time that a key file can write
-- (RFC 7210, section 2, and own)
pub record IsOrdered (r : Row) : Type 0 where
  pub ordered : r.sending.first ≤ r.sending.last
  pub written : r.sending.last ≤ greatest_time

-- each row of a table ends sending no earlier than it begins, and by the last time that a key
-- file can write (RFC 7210, section 2, and own)
abbrev pub AreOrdered : List Row → Type 0
AreOrdered rows = AllByRecursion IsOrdered rows

-- at this lag the tables are aligned with the lead (own)
abbrev pub AlignedAtLead : (a_rows b_rows : List Row) → Pair → (lag lead : ℕ) → Type 0
AlignedAtLead a b pair lag lead = Aligned a b pair lead lag

-- at this lead the tables are aligned with the lag (own)
abbrev pub AlignedAtLag : (a_rows b_rows : List Row) → Pair → (lead lag : ℕ) → Type 0
AlignedAtLag a b pair lead lag = Aligned a b pair lead lag

-- the judgement is that a connection is aligned by a plan, but with this lead (own)
abbrev pub SaysAlignedAtLead : List Table → Pair → Plan → (lead : ℕ) → Type 0
SaysAlignedAtLead tables pair plan lead =
    lint_of tables pair (record plan { lead = lead }) ≡ answer.Aligned

-- the judgement is that a connection is aligned by a plan, but with this lag (own)
abbrev pub SaysAlignedAtLag : List Table → Pair → Plan → (lag : ℕ) → Type 0
SaysAlignedAtLag tables pair plan lag =
    lint_of tables pair (record plan { lag = lag }) ≡ answer.Aligned
