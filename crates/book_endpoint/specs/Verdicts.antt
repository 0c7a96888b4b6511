-- The verdict on a segment: it passes under a row's key, or why it is refused (RFC 5925, section
-- 7.5). Its top: `judge`; `Passing.Passes` says of a pass what holds then.
use Rattle.std.specs.Prelude.{ℕ, ◌+◌, ◌==◌, nat_le, Bool, true, false, ◌&&◌, ◌||◌, List, length}
use Rattle.std.specs.Prelude.{Option, Some, None, is_some, Result, Ok, Err, if◌then◌else◌}
use Rattle.book_base.specs.Results.{◌>>=◌, or_fault}
use Rattle.book_base.specs.declared.algorithm.Algorithm.{Algorithm}
use Rattle.book_base.specs.declared.address.Pair.{Pair}
use Rattle.book_base.specs.Algorithms.{mac_length_of}
use Rattle.book_segments.specs.Bytes.{same_bytes}
use Rattle.book_segments.specs.Meant.{meant}
use Rattle.book_segments.specs.Options.{Ao, AoFound, Absent, One, Two, WithMd5 as FoundMd5, find_ao}
use Rattle.book_segments.specs.Segments.{Segment, has, SYN, segment_length}
use Rattle.book_macs.specs.Contexts.{context_of}
use Rattle.book_macs.specs.MacInput.{mac_input}
use Rattle.book_macs.specs.Keys.{traffic_key, mac}
use Rattle.book_base.specs.Algorithms.{same_algorithm}
use Rattle.book_keys.specs.Rows.{Row}
use Rattle.book_keys.specs.Choices.{Numbered, accept_row, has_id}
use Rattle.book_endpoint.specs.States.{number_limit}
use Rattle.book_endpoint.specs.declared.refusal.Refusal.{Refusal}
use Rattle.book_endpoint.specs.declared.refusal.Refusal.TheVariants.{NoAo, TwoAo, WithMd5, NoTuple}
use Rattle.book_endpoint.specs.declared.refusal.Refusal.TheVariants.{Expired, MacLength, NoContext}
use Rattle.book_endpoint.specs.declared.refusal.Refusal.TheVariants.{Range, BadMac}

-- An algorithm with a master key (RFC 5925, section 3.1).
pub record Key : Type 0 where
  pub algorithm : Algorithm
  pub master : List ℕ

-- The key of a row (RFC 5925, section 3.1).
abbrev pub key_of : Row → Key
key_of r = record { algorithm = r.algorithm; master = r.master }

-- Two keys have the same algorithm and master key (own).
abbrev pub same_master_key : (one other : Key) → Bool
same_master_key one two =
    same_algorithm one.algorithm two.algorithm && same_bytes one.master two.master

-- What the check found of a segment that passed (own).
pub record Finding : Type 0 where
  pub row : ℕ  -- the row of the table, from 1 on
  pub key : Key  -- the key of that row
  pub rnext_key_id : ℕ  -- the RNextKeyID of its TCP-AO option
  pub context : List ℕ  -- the context of its traffic key
  pub number : ℕ  -- the number of its first byte
  pub input : List ℕ  -- what its MAC is computed over

-- The verdict on a segment: it passes with what was found of it, or it is refused for this reason
-- (RFC 5925, section 7.5).
abbrev pub Judgement : Type 0
Judgement = Result Finding Refusal

-- What an end knows of the numbers of its connection, as far as it is known (RFC 5925, sections 5.2
-- and 6.2).
pub record Known : Type 0 where
  pub own_isn : ℕ  -- ISS: the own initial sequence number
  pub peer_isn : Option ℕ  -- IRS: the peer's initial sequence number
  pub expected : Option ℕ  -- RCV.NXT: the number expected next

-- The MAC under the traffic key of the context (RFC 5925, section 7.5).
abbrev pub mac_of : Finding → List ℕ
mac_of p = mac p.key.algorithm (traffic_key p.key.algorithm p.key.master p.context) p.input

-- What a segment with this context and number passes with under a row (RFC 5925, section 7.5).
abbrev pub found_with : Numbered → Segment → Ao → List ℕ → ℕ → Finding
found_with r d ao context n = record {
  row = r.number;
  key = key_of r.row;
  rnext_key_id = ao.rnext_key_id;
  context = context;
  number = n;
  input = mac_input n d ao r.row.with_options;
}

-- The one TCP-AO option of a segment, without TCP MD5 beside it (RFC 5925, section 2.2).
abbrev pub one_ao : AoFound → Result Ao Refusal
one_ao Absent = Err NoAo
one_ao Two = Err TwoAo
one_ao FoundMd5 = Err WithMd5
one_ao (One ao) = Ok ao

-- The row that takes segments with this KeyID now; where none does now, whether one does at some
-- time (RFC 5925, section 7.5).
abbrev pub row_taking : List Row → Pair → (key_id now : ℕ) → Result Numbered Refusal
row_taking rows pair key_id now =
    or_fault (accept_row rows pair key_id now)
    (if has_id rows pair key_id then Expired else NoTuple)

-- What is required holds, or this is the refusal (own).
abbrev pub require : Bool → Refusal → Result (Unit {0}) Refusal
require true why = Ok tt
require false why = Err why

-- The number of a segment: with SYN its sequence, else what that means near the number expected
-- (RFC 5925, section 6.2).
abbrev pub segment_number : Segment → Option ℕ → Option ℕ
segment_number d None = Some d.sequence
segment_number d (Some expected) = if has SYN d then Some d.sequence else meant d.sequence expected

-- The first of nine refusals that holds, else a pass, at this time (RFC 5925, section 7.5; the
-- MAC's length: RFC 5926, section 3.2; the context: RFC 5925, section 5.2; the range: own).
unfoldable pub judge : List Row → Pair → Known → ℕ → Segment → Judgement
judge rows pair known now d = do
  ao ← one_ao (find_ao d.area)  -- NoAo, TwoAo, WithMd5
  row ← row_taking rows pair ao.key_id now  -- NoTuple, Expired
  fits ← require (length ao.mac == mac_length_of row.row.algorithm) MacLength
  context ← or_fault (context_of d known.peer_isn (Some known.own_isn)) NoContext
  numbered ← require (has SYN d || is_some known.expected) NoContext
  n ← or_fault (segment_number d known.expected) Range
  ends ← require (nat_le (n + segment_length d) number_limit) Range
  right ← require (same_bytes ao.mac (mac_of (found_with row d ao context n))) BadMac
  Ok (found_with row d ao context n)
