-- What an end answers to an arrival, as the definitions answer.
use Rattle.std.specs.Prelude.{◌≡◌, ◌+◌, ◌≤◌, ◌<◌, ◌^◌, Bool, true, false, length, ℕ, List, Option, Some, None, Err, ⊤}
use Rattle.book_base.specs.declared.address.Pair.{Pair}
use Rattle.book_segments.specs.Options as options
use Rattle.book_segments.specs.Segments.{Reading, Read, Segment, has, FIN, SYN, segment_length}
use Rattle.book_keys.specs.Rows.{Row}
use Rattle.book_endpoint.specs.declared.passed.Passed.{Passed}
use Rattle.book_endpoint.specs.declared.arrival.Arrival.{Arrival}
use Rattle.book_endpoint.specs.declared.arrival.Arrival.TheVariants as answers
use Rattle.book_endpoint.specs.Verdicts.{Finding}
use Rattle.book_endpoint.specs.Arrivals as book
use Rattle.book_endpoint.specs.Hearing as hearing
use Rattle.ao_kdf.specs.declared.way.Way.TheVariants.{Inbound}
use Rattle.ao_check.specs.Bonds.{Counted}
use Rattle.ao_check.specs.declared.passing.Passing.{Passing}
use Rattle.ao_check.specs.Verdicts.{Names, is_judged, judging}
use Rattle.tcp_segment.specs.Views.{view_ao}
use Rattle.tcp_endpoint.specs.declared.arrival.Arrived.{Arrived}
use Rattle.tcp_endpoint.specs.declared.endpoint.Endpoint.{Endpoint}
use Rattle.tcp_endpoint.specs.Ends.{Stands}

-- the end stands for the state that was reached, and the answer is that one
pub record Reaches (e : Endpoint) (answer : Arrival) (m : hearing.Moved) : Type 0 where
  pub stands : Stands e m.state
  pub answer_is : answer ≡ m.answer

-- the segment at this number ends at 2^63 at most
pub record InRange (d : Segment) (n : ℕ) : Type 0 where
  pub payload : n + length d.payload ≤ 2 ^ 63
  pub fin : has FIN d ≡ true → n + length d.payload < 2 ^ 63
  pub whole : n + segment_length d ≤ 2 ^ 63

-- what is told of a segment that passed names what the check found
abbrev pub TellsPassed : List Row → Pair → Reading → Option Passed → Option Finding → Type 0
TellsPassed rows pair r None None = ⊤
TellsPassed rows pair (Read d) (Some p) (Some found) = Names rows pair d p found
TellsPassed rows pair r _ _ = ⊥

-- what the check found of a segment that passed, without its option
abbrev pub found_of : Option Passing → Option Passed
found_of None = None
found_of (Some p) = Some p.passed

-- the same of what an end told
abbrev pub passed_of : Arrived → Option Passed
passed_of told = found_of told.passed

-- the end stands for the state after the arrival, answers as it is answered, and tells what passed
pub record Arrives (rows : List Row) (pair : Pair) (r : Reading) (e : Endpoint) (told : Arrived) (m : book.Arrived) : Type 0 where
  pub stands : Stands e m.state
  pub answer : told.arrival ≡ m.answer
  pub passed : TellsPassed rows pair r (passed_of told) m.passed

-- the answers that come before the check (RFC 9293, section 3.10.7)
abbrev pub IsBeforeCheck : Arrival → Type 0
IsBeforeCheck (answers.Bad fault) = ⊤
IsBeforeCheck answers.Foreign = ⊤
IsBeforeCheck answers.Checksum = ⊤
IsBeforeCheck answers.Closed = ⊤
IsBeforeCheck _ = ⊥

-- the answers to what didn't pass the check (RFC 9293, section 3.10.7; RFC 5925, section 7.5)
abbrev pub IsStopped : Arrival → Type 0
IsStopped (answers.Refused why) = ⊤
IsStopped answer = IsBeforeCheck answer

-- the option that is told is the one that was found in the segment; where none is told, the segment
-- didn't pass (RFC 5925, section 7.5)
abbrev pub OptionIs : Segment → Arrival → Option Passing → Type 0
OptionIs d answer None = IsStopped answer
OptionIs d answer (Some p) = options.find_ao d.area ≡ options.One (view_ao p.option)

-- the same of what an end told
abbrev pub TellsOption : Segment → Arrived → Type 0
TellsOption d told = OptionIs d told.arrival told.passed

-- the segment came as far as its MAC (RFC 5925, section 7.5)
abbrev pub is_computed : Arrival → Bool
is_computed (answers.Bad fault) = false
is_computed answers.Foreign = false
is_computed answers.Checksum = false
is_computed answers.Closed = false
is_computed (answers.Refused why) = is_judged (Err why)
is_computed _ = true

-- the work of an arrival: that on its MAC, and behind it at most 65 links of the received runs, none where nothing passed or came with it
pub record Costs (rows : List Row) (now : ℕ) (d : Segment) (before after : Endpoint) (told : Arrived) (old new : ℕ) : Type 0 where
  pub checked : ℕ
  pub counted : Counted before.association.keys after.association.keys (judging rows before.pair now (options.find_ao d.area)) (is_computed told.arrival) Inbound (has SYN d) old checked
  pub links : new ≤ checked + 65
  pub refused : told.passed ≡ None → new ≡ checked
  pub bare : length d.payload ≡ 0 → new ≡ checked

-- the answers after which all that an end stands for is as it was
abbrev pub LeavesAll : Arrival → Type 0
LeavesAll (answers.Bad fault) = ⊤
LeavesAll answers.Foreign = ⊤
LeavesAll answers.Checksum = ⊤
LeavesAll answers.Closed = ⊤
LeavesAll (answers.Refused why) = ⊤
LeavesAll answers.Unexpected = ⊤
LeavesAll _ = ⊥
