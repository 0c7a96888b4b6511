-- What the check answers, as the verdict of the definitions.
use Rattle.std.specs.Prelude.{◌≡◌, ◌≤◌, ◌+◌, ◌-◌, ◌^◌, ℕ, Bool, true, false, slice_get, List, length, Option, Some, None, Result, Ok, Err, ⊤, if◌then◌else◌}
use Rattle.book_base.specs.declared.address.Pair.{Pair}
use Rattle.book_base.specs.Algorithms.{mac_length_of}
use Rattle.book_segments.specs.Bytes.{same_bytes}
use Rattle.book_segments.specs.Options.{Ao, AoFound, Absent, One, Two, WithMd5 as FoundMd5, find_ao}
use Rattle.book_segments.specs.Segments.{Segment, segment_length}
use Rattle.book_macs.specs.Contexts.{context_of}
use Rattle.book_keys.specs.Rows.{Row}
use Rattle.book_keys.specs.Choices.{Numbered, accept_row}
use Rattle.book_endpoint.specs.Verdicts as book
use Rattle.book_macs.specs.Contexts.{bytes_of}
use Rattle.book_keys.specs.Lookups.{number_of}
use Rattle.book_endpoint.specs.declared.passed.Passed.{Passed}
use Rattle.book_endpoint.specs.declared.refusal.Refusal.{Refusal}
use Rattle.book_endpoint.specs.declared.refusal.Refusal.TheVariants as refusals
use Rattle.tcp_segment.specs.Views.{view_ao}
use Rattle.ao_check.specs.declared.passing.Passing.{Passing}
use Rattle.ao_check.specs.declared.screen.Screened.{Screened}

-- what is told of a segment that passed: the number of the row, the number of the segment, the context; all else is read from the table and the segment
pub record Names (rows : List Row) (pair : Pair) (d : Segment) (p : Passed) (entry : book.Finding) : Type 0 where
  pub row : Row
  pub here : slice_get rows (p.row - 1) ≡ Some row
  pub ao : Ao
  pub found : find_ao d.area ≡ One ao
  pub entry_is : entry ≡ book.found_with (record { number = p.row; row = row }) d ao (bytes_of p.context) p.number
  pub source : p.context.source ≡ pair.remote
  pub destination : p.context.destination ≡ pair.local
  pub end : p.number + segment_length d ≤ 2 ^ 63

-- what is told of a segment: that it passed, with what is told then, or why it is refused
abbrev pub Verdict : Type 0
Verdict = Result Passed Refusal

-- the answer is that judgement: a pass names what was found, and a refusal is that one
abbrev pub Tells : List Row → Pair → Segment → Verdict → book.Judgement → Type 0
Tells rows pair d (Ok p) j = (entry : book.Finding) × (j ≡ Ok entry) × Names rows pair d p entry
Tells rows pair d (Err why) j = j ≡ Err why

-- the verdict of an answer that has the option of a segment that passes
abbrev pub verdict_of : Result Passing Refusal → Verdict
verdict_of (Ok p) = Ok p.passed
verdict_of (Err why) = Err why

-- the number expected is at most 2^63, and there is none while the peer's initial sequence number is not known
abbrev pub IsExpected : Option ℕ → Option ℕ → Type 0
IsExpected peer None = ⊤
IsExpected None (Some x) = ⊥
IsExpected (Some peer) (Some x) = x ≤ 2 ^ 63

-- a segment with this verdict has come as far as its MAC (RFC 5925, section 7.5)
abbrev pub is_judged : Verdict → Bool
is_judged (Ok p) = true
is_judged (Err refusals.BadMac) = true
is_judged (Err _) = false

-- the number of the row that judges the segment
abbrev pub judging : List Row → Pair → ℕ → AoFound → Option ℕ
judging rows pair now Absent = None
judging rows pair now Two = None
judging rows pair now FoundMd5 = None
judging rows pair now (One ao) = number_of (accept_row rows pair ao.key_id now)

-- The judgement of a segment of which only the MAC is left to judge (RFC 5925, section 7.5).
abbrev pub by_mac : Ao → book.Finding → book.Judgement
by_mac ao p = if same_bytes ao.mac (book.mac_of p) then Ok p else Err refusals.BadMac

-- only the MAC is left to judge: this row, number, context and option
pub record Awaits (rows : List Row) (pair : Pair) (own : ℕ) (peer : Option ℕ) (now : ℕ) (d : Segment) (s : Screened) (v : book.Judgement) : Type 0 where
  pub found : find_ao d.area ≡ One (view_ao s.option)
  pub row : Row
  pub accepted : accept_row rows pair s.option.key_id now ≡ Some (record { number = s.row; row = row })
  pub length_is : length s.option.mac.now ≡ mac_length_of row.algorithm
  pub context : context_of d peer (Some own) ≡ Some (bytes_of s.context)
  pub source : s.context.source ≡ d.source
  pub destination : s.context.destination ≡ d.destination
  pub end : s.number + segment_length d ≤ 2 ^ 63
  pub judgement : v ≡ by_mac (view_ao s.option) (book.found_with (record { number = s.row; row = row }) d (view_ao s.option) (bytes_of s.context) s.number)

-- the first refusal before that of the MAC, or what the MAC is judged by
abbrev pub Screens : List Row → Pair → ℕ → Option ℕ → ℕ → Segment → Result Screened Refusal → book.Judgement → Type 0
Screens rows pair own peer now d (Ok s) v = Awaits rows pair own peer now d s v
Screens rows pair own peer now d (Err why) v = v ≡ Err why
