-- What a planned rollover asks of the tables of two ends: each row is accepted at the other end for
-- long enough, and at each time some row is sendable (own). `Aligned`, `IsGap` and `lint_of` are
-- the file's tops.
use Rattle.std.specs.Prelude.{◌≡◌, ℕ, zero, suc, ◌+◌, ◌-◌, ◌≤◌, ◌<◌, ◌==◌, min}
use Rattle.std.specs.Prelude.{Bool, true, false, not, ◌&&◌, List, [], ◌∷◌, if◌then◌else◌}
use Rattle.std.specs.Prelude.{Option, Some, None, option_map, IsSomeAnd}
use Rattle.std.specs.List.{list_any, find, AllByRecursion}
use Rattle.std.specs.Option.{option_or}
use Rattle.book_base.specs.declared.address.Address.{Address}
use Rattle.book_base.specs.declared.address.Pair.{Pair}
use Rattle.book_base.specs.declared.end.End.{End}
use Rattle.book_base.specs.declared.end.End.TheVariants.{A, B}
use Rattle.book_segments.specs.Bytes.{same_bytes}
use Rattle.book_keys.specs.declared.lifetime.Lifetime.{Lifetime}
use Rattle.book_keys.specs.declared.lint.LintAnswer.{LintAnswer}
use Rattle.book_keys.specs.declared.lint.LintAnswer.TheVariants as answer
use Rattle.book_keys.specs.declared.plan.Plan.{Plan}
use Rattle.book_keys.specs.Choices.{accept_row}
use Rattle.book_keys.specs.Lifetimes.{greatest_time, contains}
use Rattle.book_keys.specs.Rows.{Row, Table, has_address, matches, receives, sends_for, sendable}
use Rattle.book_base.specs.Algorithms.{same_algorithm}

-- the pair of sockets as the other end sees it (own)
abbrev pub mirrored : Pair → Pair
mirrored pair = record { local = pair.remote; remote = pair.local }

-- both flags say alike whether the options are covered (own)
abbrev pub same_flag : (one other : Bool) → Bool
same_flag true flag = flag
same_flag false flag = not flag

-- both rows have the same key, algorithm and option flag (RFC 5925, section 3.1)
abbrev pub same_key : (one other : Row) → Bool
same_key one two =
    same_bytes one.master two.master && (same_algorithm one.algorithm two.algorithm
    && same_flag one.with_options two.with_options)

-- the other end's row accepts what this row sends: its RecvID is this SendID, and the key is the
-- same (RFC 5925, section 3.1)
abbrev pub accepts_from : Pair → (sending other : Row) → Bool
accepts_from pair r other =
    matches other (mirrored pair) && (receives other.direction
    && ((other.recv_id == r.send_id) && same_key other r))

-- the other end's row accepts from so long before this row's first second of sending until so long
-- after its last (own)
abbrev pub outlasts : (lead lag : ℕ) → (sending other : Row) → Bool
outlasts lead lag r other =
    contains other.accepting (r.sending.first - lead)
    && contains other.accepting (min greatest_time (r.sending.last + lag))

-- the other end's row accepts what this row sends, and for long enough (own)
abbrev pub accepts_throughout : Pair → (lead lag : ℕ) → (sending other : Row) → Bool
accepts_throughout pair lead lag r other =
    accepts_from pair r other && outlasts lead lag r other

-- a row that sends for the pair has a row at the other end that accepts throughout (own)
abbrev pub IsMet : List Row → Pair → (lead lag : ℕ) → Row → Type 0
IsMet others pair lead lag r =
    sends_for pair r ≡ true → list_any (accepts_throughout pair lead lag r) others ≡ true

-- each row of a sender's table is met in the receiver's (own)
abbrev pub AlignedFrom : (rows others : List Row) → Pair → (lead lag : ℕ) → Type 0
AlignedFrom rows others pair lead lag = AllByRecursion (IsMet others pair lead lag) rows

-- both ends' rows are met at the other end (own)
abbrev pub Aligned : (a_rows b_rows : List Row) → Pair → (lead lag : ℕ) → Type 0
Aligned a b pair lead lag =
    AlignedFrom a b pair lead lag × AlignedFrom b a (mirrored pair) lead lag

-- under this row's SendID the other end's table finds a row with the same key at the time (RFC
-- 5925, section 7.5)
abbrev pub IsFoundAt : List Row → Pair → ℕ → Row → Type 0
IsFoundAt others pair now r =
    IsSomeAnd (accept_row others (mirrored pair) r.send_id now)
    (λ found. same_key found.row r ≡ true)

-- why a row isn't met: no row accepts what it sends, or none that does accepts throughout (own)
pub data Reason : Type 0 where
  NoPeerRow ShortAccept : Reason

-- a row that isn't met at the other end: its end, its number, and why (own)
pub record Misaligned : Type 0 where
  pub end : End
  pub row : ℕ
  pub reason : Reason

-- why this row isn't met at the other end, where it sends for the pair and isn't (own)
abbrev pub unmet_reason : List Row → Pair → (lead lag : ℕ) → Row → Option Reason
unmet_reason others pair lead lag r =
    if not (sends_for pair r) then None
    else if not (list_any (accepts_from pair r) others) then Some NoPeerRow
    else if not (list_any (accepts_throughout pair lead lag r) others) then Some ShortAccept
    else None

-- the row of this end and number, with the reason why it isn't met (own)
abbrev pub misaligned_by : End → ℕ → Reason → Misaligned
misaligned_by end n reason = record { end = end; row = n; reason = reason }

-- the first row of an end that isn't met, by the reasons why rows aren't, the first row having
-- number n (own)
abbrev pub first_unmet : (Row → Option Reason) → End → ℕ → List Row → Option Misaligned
first_unmet reason end n [] = None
first_unmet reason end n (r ∷ rs) =
    option_or (option_map (misaligned_by end n) (reason r)) (first_unmet reason end (n + 1) rs)

-- the first row that isn't met at the other end, the rows of end a first (own)
unfoldable pub first_misaligned :
    (a_rows b_rows : List Row) → Pair → (lead lag : ℕ) → Option Misaligned
first_misaligned a b pair lead lag =
    option_or (first_unmet (unmet_reason b pair lead lag) A 1 a)
    (first_unmet (unmet_reason a (mirrored pair) lead lag) B 1 b)

-- the send lifetimes of the rows that send for the pair (RFC 7210, section 2)
abbrev pub send_lifetimes : List Row → Pair → List Lifetime
send_lifetimes [] pair = []
send_lifetimes (r ∷ rs) pair =
    if sends_for pair r then r.sending ∷ send_lifetimes rs pair else send_lifetimes rs pair

-- some row is sendable for the pair at the time (RFC 7210, section 3)
abbrev pub has_sendable : List Row → Pair → ℕ → Bool
has_sendable rows pair time = list_any (sendable pair time) rows

-- the first time from this one on that fails the test, among so many times (own)
abbrev pub first_failing : (ℕ → Bool) → (time count : ℕ) → Option ℕ
first_failing good time zero = None
first_failing good time (suc n) =
    if good time then first_failing good (time + 1) n else Some time

-- the least time from low to high at which no row is sendable (RFC 7210, section 3, and own)
unfoldable pub gap : List Row → Pair → (low high : ℕ) → Option ℕ
gap rows pair low high = first_failing (has_sendable rows pair) low (high + 1 - low)

-- at each time from low to high some row is sendable, or this is the least of these times at which
-- none is (RFC 7210, section 3, and own)
abbrev pub IsGap : List Row → Pair → (low high : ℕ) → Option ℕ → Type 0
IsGap rows pair low high None =
    (t : ℕ) → low ≤ t → t ≤ high → has_sendable rows pair t ≡ true
IsGap rows pair low high (Some time) =
    (low ≤ time) × (time ≤ high) × (has_sendable rows pair time ≡ false)
    × ((t : ℕ) → low ≤ t → t < time → has_sendable rows pair t ≡ true)

-- the judgement where a row isn't met at the other end (own)
abbrev pub misaligned_answer : Misaligned → LintAnswer
misaligned_answer m = by_reason m.reason m.end m.row
  where
    by_reason : Reason → End → ℕ → LintAnswer
    by_reason NoPeerRow end n = answer.NoPeerRow end n
    by_reason ShortAccept end n = answer.ShortAccept end n

-- the judgement by what was found: a row that isn't met comes before a gap of end a, and that
-- before a gap of end b (own)
abbrev pub lint_answer : Option Misaligned → (gap_a gap_b : Option ℕ) → LintAnswer
lint_answer (Some m) gap_a gap_b = misaligned_answer m
lint_answer None (Some time) gap_b = answer.Gap A time
lint_answer None None (Some time) = answer.Gap B time
lint_answer None None None = answer.Aligned

-- the judgement on the tables of the two ends of a pair by a plan, end a being the local one (own)
unfoldable pub lint_rows : (a_rows b_rows : List Row) → Pair → Plan → LintAnswer
lint_rows a b pair plan =
    lint_answer (first_misaligned a b pair plan.lead plan.lag) (gap a pair plan.from plan.to)
    (gap b (mirrored pair) plan.from plan.to)

-- the rows of a table, where there is one, and else none (own)
abbrev pub rows_of_table : Option Table → List Row
rows_of_table None = []
rows_of_table (Some t) = t.rows

-- the rows of the node with this address, and none where no node has it (own)
abbrev pub rows_at : List Table → Address → List Row
rows_at tables address = rows_of_table (find (has_address address) tables)

-- the judgement on a connection by the tables of a key file and a plan (own)
abbrev pub lint_of : List Table → Pair → Plan → LintAnswer
lint_of tables pair plan =
    lint_rows (rows_at tables pair.local.address) (rows_at tables pair.remote.address) pair plan
