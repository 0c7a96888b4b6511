-- The verdict as a chain of steps, each with its refusals and what follows, and that it is the same.
use Rattle.std.proofs.Common.{◌≡◌, ℕ, ◌+◌, Bool, true, false, not, ◌&&◌, ◌||◌, nat_lt, nat_le, List, length, Option, Some, None, is_some, Result, Ok, Err, refl, arith, if◌then◌else◌}
use Rattle.std.specs.Prelude.{◌==◌}
use Rattle.std.proofs.lemmas.Bool.Decides.{nat_tests}
use Rattle.book_base.specs.declared.address.Pair.{Pair}
use Rattle.book_base.specs.Algorithms.{mac_length_of}
use Rattle.book_base.specs.Results.{◌>>=◌, or_fault}
use Rattle.book_segments.specs.Bytes.{same_bytes}
use Rattle.book_segments.specs.Options.{Ao, AoFound, Absent, One, Two, WithMd5 as FoundMd5, find_ao}
use Rattle.book_segments.specs.Segments.{Segment, has, SYN, segment_length}
use Rattle.book_macs.specs.Contexts.{context_of}
use Rattle.book_keys.specs.Rows.{Row}
use Rattle.book_keys.specs.Choices.{Numbered, accept_row, has_id}
use Rattle.book_endpoint.specs.declared.refusal.Refusal.TheVariants.{NoAo, TwoAo, WithMd5, NoTuple, Expired, MacLength, NoContext, Range, BadMac}
use Rattle.book_endpoint.specs.States.{number_limit}
use Rattle.book_endpoint.specs.Verdicts.{Finding, Judgement, Known, mac_of, found_with, segment_number, one_ao, row_taking, require, judge}

-- refused where the MAC is wrong, else passed
abbrev pub judge_mac : Ao → Finding → Judgement
judge_mac ao p = if same_bytes ao.mac (mac_of p) then Ok p else Err BadMac

-- refused where the number is below 0 or the segment ends past 2^63
abbrev pub judge_number : Numbered → Segment → Ao → List ℕ → Option ℕ → Judgement
judge_number r d ao context None = Err Range
judge_number r d ao context (Some n) = if nat_lt 9223372036854775808 (n + segment_length d) then Err Range else judge_mac ao (found_with r d ao context n)

-- refused where the context isn't known or, without SYN, no number is expected
abbrev pub judge_context : Numbered → Segment → Ao → Option ℕ → Option (List ℕ) → Judgement
judge_context r d ao expected None = Err NoContext
judge_context r d ao expected (Some context) =
    if not (has SYN d) && not (is_some expected) then Err NoContext else judge_number r d ao context (segment_number d expected)

-- refused where no row takes the KeyID, where none does now, or where the MAC hasn't the length of the row's algorithm
abbrev pub judge_row : List Row → Pair → Segment → Ao → Option ℕ → Option (List ℕ) → Option Numbered → Judgement
judge_row rows pair d ao expected context None = if has_id rows pair ao.key_id then Err Expired else Err NoTuple
judge_row rows pair d ao expected context (Some r) =
    if not (length ao.mac == mac_length_of r.row.algorithm) then Err MacLength else judge_context r d ao expected context

-- refused without a TCP-AO option, with more than one, or with TCP MD5 beside it
abbrev pub judge_ao : List Row → Pair → ℕ → Option ℕ → Segment → Option (List ℕ) → AoFound → Judgement
judge_ao rows pair now expected d context Absent = Err NoAo
judge_ao rows pair now expected d context Two = Err TwoAo
judge_ao rows pair now expected d context FoundMd5 = Err WithMd5
judge_ao rows pair now expected d context (One ao) = judge_row rows pair d ao expected context (accept_row rows pair ao.key_id now)

-- ---- the tests from each step on

abbrev from_mac : Ao → Finding → Judgement
from_mac ao p = require (same_bytes ao.mac (mac_of p)) BadMac >>= λ right. Ok p

abbrev from_number : Numbered → Segment → Ao → List ℕ → Option ℕ → Judgement
from_number r d ao context n =
    or_fault n Range >>= λ n. require (nat_le (n + segment_length d) number_limit) Range >>= λ ends. from_mac ao (found_with r d ao context n)

abbrev from_context : Numbered → Segment → Ao → Option ℕ → Option (List ℕ) → Judgement
from_context r d ao expected context =
    or_fault context NoContext >>= λ context. require (has SYN d || is_some expected) NoContext >>= λ numbered. from_number r d ao context (segment_number d expected)

abbrev from_row : List Row → Pair → Segment → Ao → Option ℕ → Option (List ℕ) → Option Numbered → Judgement
from_row rows pair d ao expected context found =
    or_fault found (if has_id rows pair ao.key_id then Expired else NoTuple)
    >>= λ row. require (length ao.mac == mac_length_of row.row.algorithm) MacLength >>= λ fits. from_context row d ao expected context

abbrev from_ao : List Row → Pair → ℕ → Option ℕ → Segment → Option (List ℕ) → AoFound → Judgement
from_ao rows pair now expected d context f =
    one_ao f >>= λ ao. from_row rows pair d ao expected context (accept_row rows pair ao.key_id now)

-- ---- each is the step

mac_same : (b : Bool) (p : Finding) → (require b BadMac >>= λ right. Ok p) ≡ (if b then Ok p else Err BadMac)
mac_same true p = refl
mac_same false p = refl

late_is : (n : ℕ) → nat_le n number_limit ≡ not (nat_lt 9223372036854775808 n)
late_is n = grind (arith, nat_tests)

ends_same : (over : Bool) (one two : Judgement) → one ≡ two → (require (not over) Range >>= λ ends. one) ≡ (if over then Err Range else two)
ends_same true one two e = refl
ends_same false one two e = e

number_same : (r : Numbered) (d : Segment) (ao : Ao) (context : List ℕ) (n : Option ℕ) → from_number r d ao context n ≡ judge_number r d ao context n
number_same r d ao context None = refl
number_same r d ao context (Some n) =
    rw (late_is (n + segment_length d))
    (ends_same (nat_lt 9223372036854775808 (n + segment_length d)) (from_mac ao (found_with r d ao context n)) (judge_mac ao (found_with r d ao context n))
    (mac_same (same_bytes ao.mac (mac_of (found_with r d ao context n))) (found_with r d ao context n)))

context_tested : (syn some : Bool) (one two : Judgement) → one ≡ two → (require (syn || some) NoContext >>= λ numbered. one) ≡ (if not syn && not some then Err NoContext else two)
context_tested true some one two e = e
context_tested false true one two e = e
context_tested false false one two e = refl

context_same : (r : Numbered) (d : Segment) (ao : Ao) (expected : Option ℕ) (context : Option (List ℕ)) → from_context r d ao expected context ≡ judge_context r d ao expected context
context_same r d ao expected None = refl
context_same r d ao expected (Some context) =
    context_tested (has SYN d) (is_some expected) (from_number r d ao context (segment_number d expected)) (judge_number r d ao context (segment_number d expected))
    (number_same r d ao context (segment_number d expected))

length_same : (fits : Bool) (one two : Judgement) → one ≡ two → (require fits MacLength >>= λ fits. one) ≡ (if not fits then Err MacLength else two)
length_same true one two e = e
length_same false one two e = refl

no_row_same : (late : Bool) → ◌≡◌ {A = Judgement} (Err (if late then Expired else NoTuple)) (if late then Err Expired else Err NoTuple)
no_row_same true = refl
no_row_same false = refl

row_same : (rows : List Row) (pair : Pair) (d : Segment) (ao : Ao) (expected : Option ℕ) (context : Option (List ℕ)) (found : Option Numbered) → from_row rows pair d ao expected context found ≡ judge_row rows pair d ao expected context found
row_same rows pair d ao expected context None = no_row_same (has_id rows pair ao.key_id)
row_same rows pair d ao expected context (Some r) =
    length_same (length ao.mac == mac_length_of r.row.algorithm) (from_context r d ao expected context) (judge_context r d ao expected context) (context_same r d ao expected context)

ao_same : (rows : List Row) (pair : Pair) (now : ℕ) (expected : Option ℕ) (d : Segment) (context : Option (List ℕ)) (f : AoFound) → from_ao rows pair now expected d context f ≡ judge_ao rows pair now expected d context f
ao_same rows pair now expected d context Absent = refl
ao_same rows pair now expected d context Two = refl
ao_same rows pair now expected d context FoundMd5 = refl
ao_same rows pair now expected d context (One ao) = row_same rows pair d ao expected context (accept_row rows pair ao.key_id now)

-- the verdict is the chain of steps
pub judge_by_steps : (rows : List Row) (pair : Pair) (known : Known) (now : ℕ) (d : Segment)
    → judge rows pair known now d ≡ judge_ao rows pair now known.expected d (context_of d known.peer_isn (Some known.own_isn)) (find_ao d.area)
unfolding judge
judge_by_steps rows pair known now d = ao_same rows pair now known.expected d (context_of d known.peer_isn (Some known.own_isn)) (find_ao d.area)
