-- All that doesn't hold of a planned rollover: each row that isn't met, and each gap. Its top is
-- `findings_of`.
use Rattle.std.specs.Prelude.{◌≡◌, ◌≤◌, ◌<◌, true, false, ℕ, zero, suc, ◌+◌, ◌-◌, ◌==◌, min, max}
use Rattle.std.specs.Prelude.{Bool, List, [], ◌∷◌, ◌++◌, map, Option, Some, None, option_map}
use Rattle.std.specs.Prelude.{if◌then◌else◌}
use Rattle.book_base.specs.declared.address.Pair.{Pair}
use Rattle.book_base.specs.declared.end.End.{End}
use Rattle.book_base.specs.declared.end.End.TheVariants.{A, B}
use Rattle.book_plans.specs.declared.finding.Finding.{Finding}
use Rattle.book_plans.specs.declared.finding.Finding.TheVariants as finding
use Rattle.book_keys.specs.declared.plan.Plan.{Plan}
use Rattle.book_keys.specs.declared.lifetime.Lifetime.{Lifetime}
use Rattle.book_keys.specs.declared.lint.LintAnswer.{LintAnswer}
use Rattle.book_keys.specs.declared.lint.LintAnswer.TheVariants as answer
use Rattle.book_keys.specs.Lifetimes.{greatest_time}
use Rattle.book_keys.specs.Plans.{mirrored, Reason, NoPeerRow, ShortAccept, unmet_reason}
use Rattle.book_keys.specs.Plans.{has_sendable, rows_at}
use Rattle.book_keys.specs.Rows.{Row, Table}

-- the finding on the row of this end and number (own)
abbrev pub finding_by : End → ℕ → Reason → Finding
finding_by end n NoPeerRow = finding.NoPeerRow end n
finding_by end n ShortAccept = finding.ShortAccept end n

-- the findings with this one in front, if there is one (own)
abbrev pub with_finding : Option Finding → List Finding → List Finding
with_finding None fs = fs
with_finding (Some f) fs = f ∷ fs

-- each row of an end that isn't met, by the reasons why rows aren't, in order, the first row having
-- number n (own)
abbrev pub unmet_findings : (Row → Option Reason) → End → ℕ → List Row → List Finding
unmet_findings reason end n [] = []
unmet_findings reason end n (r ∷ rs) =
    with_finding (option_map (finding_by end n) (reason r))
    (unmet_findings reason end (n + 1) rs)

-- the times from the first to the last, both included (own)
pub record Span : Type 0 where
  pub first : ℕ
  pub last : ℕ

-- the time, joined to the span that begins just after it (own)
abbrev pub lengthened : ℕ → List Span → List Span
lengthened time [] = record { first = time; last = time } ∷ []
lengthened time (s ∷ ss) =
    if s.first == time + 1 then record { first = time; last = s.last } ∷ ss
    else record { first = time; last = time } ∷ s ∷ ss

-- the longest spans of times that fail the test, in order, among so many times from this one on
-- (own)
abbrev pub failing_spans : (ℕ → Bool) → (time count : ℕ) → List Span
failing_spans good time zero = []
failing_spans good time (suc n) =
    if good time then failing_spans good (time + 1) n
    else lengthened time (failing_spans good (time + 1) n)

-- the first span of times that fail: all times before it pass, all its times fail, and it ends
-- with the times that are looked at, or the next passes (own)
pub record IsFirstSpan (good : ℕ → Bool) (low end : ℕ) (s : Span) : Type 0 where
  pub begins : low ≤ s.first
  pub ordered : s.first ≤ s.last
  pub within : s.last < end
  pub before : (t : ℕ) → low ≤ t → t < s.first → good t ≡ true
  pub fails : (t : ℕ) → s.first ≤ t → t ≤ s.last → good t ≡ false
  pub after : s.last + 1 < end → good (s.last + 1) ≡ true

-- the spans are all the longest in which each time from low on and before the end fails (own)
abbrev pub AreLongest : (ℕ → Bool) → (low end : ℕ) → List Span → Type 0
AreLongest good low end [] = (t : ℕ) → low ≤ t → t < end → good t ≡ true
AreLongest good low end (s ∷ ss) = IsFirstSpan good low end s × AreLongest good (s.last + 1) end ss

-- the finding on a span in which this end has no row to send with (own)
abbrev pub gap_finding : End → Span → Finding
gap_finding end s = finding.Gap end s.first s.last

-- each gap of an end from low to high, in order (RFC 7210, section 3, and own)
abbrev pub gap_findings : End → List Row → Pair → (low high : ℕ) → List Finding
gap_findings end rows pair low high =
    map (gap_finding end) (failing_spans (has_sendable rows pair) low (high + 1 - low))

-- all that doesn't hold of a plan: the rows of a that aren't met, those of b, the gaps of a, those
-- of b (own)
unfoldable pub findings : (a_rows b_rows : List Row) → Pair → Plan → List Finding
findings a b pair plan =
    unmet_findings (unmet_reason b pair plan.lead plan.lag) A 1 a
    ++ (unmet_findings (unmet_reason a (mirrored pair) plan.lead plan.lag) B 1 b
    ++ (gap_findings A a pair plan.from plan.to
    ++ gap_findings B b (mirrored pair) plan.from plan.to))

-- all findings on a connection by the tables of a key file (own)
abbrev pub findings_of : List Table → Pair → Plan → List Finding
findings_of tables pair plan =
    findings (rows_at tables pair.local.address) (rows_at tables pair.remote.address) pair plan

-- what the judgement says of the first finding (own)
abbrev pub first_answer : List Finding → LintAnswer
first_answer [] = answer.Aligned
first_answer (finding.NoPeerRow end n ∷ fs) = answer.NoPeerRow end n
first_answer (finding.ShortAccept end n ∷ fs) = answer.ShortAccept end n
first_answer (finding.Gap end from to ∷ fs) = answer.Gap end from

-- when a row of the other end is to accept what this row sends (own)
abbrev pub wanted_accepting : (lead lag : ℕ) → Row → Lifetime
wanted_accepting lead lag r = record {
  first = r.sending.first - lead;
  last = min greatest_time (r.sending.last + lag);
}

-- the least lifetime that contains both of two (own)
abbrev pub widened : (one other : Lifetime) → Lifetime
widened one two = record { first = min one.first two.first; last = max one.last two.last }

-- a row with another AcceptLifetimeStart and AcceptLifetimeEnd (RFC 7210, section 2)
abbrev pub accepting_in : Lifetime → Row → Row
accepting_in l other = record other { accepting = l }
