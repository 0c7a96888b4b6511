-- What crosses between a C program and a stack (own).
use Rattle.std.specs.Prelude.{ℕ, ◌==◌, [], ◌∷◌, List, Option, Some, None, slice_index, false, is_some, if◌then◌else◌}
use Rattle.book_base.specs.declared.address.Address.{Address}
use Rattle.book_base.specs.declared.address.Address.TheVariants.{V4, V6}
use Rattle.book_base.specs.declared.address.Pair.{Pair}
use Rattle.book_keys.specs.declared.fault.TableFault.{TableFault}
use Rattle.book_keys.specs.declared.fault.TableFault.TheVariants as fault
use Rattle.book_endpoint.specs.declared.passed.Passed.{Passed}
use Rattle.book_stack.specs.declared.front.Front.{Front}
use Rattle.tcp_endpoint.specs.Arrivals.{passed_of}
use Rattle.stack_ends.specs.declared.answer.NodeArrival.{NodeArrival}
use Rattle.stack_ends.specs.declared.answer.NodeArrival.TheVariants as told
use Rattle.ao_stack.specs.declared.input.Heard.{Heard}
use Rattle.ao_stack.specs.declared.input.Heard.TheVariants as heard
use Rattle.aotcp_c.specs.declared.shapes.CAddress.{CAddress}
use Rattle.aotcp_c.specs.declared.shapes.CPair.{CPair}
use Rattle.aotcp_c.specs.declared.shapes.CFault.{CFault}
use Rattle.aotcp_c.specs.declared.shapes.CHeard.{CHeard}
use Rattle.aotcp_c.specs.declared.shapes.CState.{CState}
use Rattle.aotcp_c.specs.Numbers.{arrival_number, column_number, datagram_number, phase_number, reason_number, verdict_number}

-- the first four bytes (own)
abbrev pub four : List ℕ → List ℕ
four xs = slice_index xs 0 ∷ slice_index xs 1 ∷ slice_index xs 2 ∷ slice_index xs 3 ∷ []

-- the address; none for another family than 4 and 6 (own)
abbrev pub address_of : CAddress → Option Address
address_of c = if c.family == 4 then Some (V4 (four c.bytes))
    else if c.family == 6 then Some (V6 c.bytes) else None

-- the pair of sockets; none for another family than 4 and 6 (own)
abbrev pub pair_of : CPair → Option Pair
pair_of c = if c.family == 4
    then Some (record {
      local = record { address = V4 (four c.local); port = c.local_port };
      remote = record { address = V4 (four c.remote); port = c.remote_port };
    })
    else if c.family == 6
    then Some (record {
      local = record { address = V6 c.local; port = c.local_port };
      remote = record { address = V6 c.remote; port = c.remote_port };
    })
    else None

-- twelve bytes that are zero (own)
abbrev pub twelve_zeros : List ℕ
twelve_zeros = 0 ∷ 0 ∷ 0 ∷ 0 ∷ 0 ∷ 0 ∷ 0 ∷ 0 ∷ 0 ∷ 0 ∷ 0 ∷ 0 ∷ []

-- four bytes, and twelve that are zero (own)
abbrev pub padded : List ℕ → List ℕ
padded xs = slice_index xs 0 ∷ slice_index xs 1 ∷ slice_index xs 2 ∷ slice_index xs 3 ∷ twelve_zeros

-- the bytes of an address (own)
abbrev pub bytes_of : Address → List ℕ
bytes_of (V4 bytes) = padded bytes
bytes_of (V6 bytes) = bytes

-- the family of an address (own)
abbrev pub family_of : Address → ℕ
family_of (V4 bytes) = 4
family_of (V6 bytes) = 6

-- a pair of sockets as a C program sees it (own)
abbrev pub told_pair : Pair → CPair
told_pair p = record {
  family = family_of p.local.address;
  local = bytes_of p.local.address;
  remote = bytes_of p.remote.address;
  local_port = p.local.port;
  remote_port = p.remote.port;
}

-- no pair (own)
abbrev pub no_pair : CPair
no_pair = record {
  family = 0;
  local = 0 ∷ 0 ∷ 0 ∷ 0 ∷ twelve_zeros;
  remote = 0 ∷ 0 ∷ 0 ∷ 0 ∷ twelve_zeros;
  local_port = 0;
  remote_port = 0;
}

-- a fault of a key file as numbers (own)
abbrev pub fault_of : TableFault → CFault
fault_of fault.Memory = record { kind = 1; node = 0; row = 0; other = 0 }
fault_of fault.Syntax = record { kind = 2; node = 0; row = 0; other = 0 }
fault_of (fault.Field node row column) =
    record { kind = 3; node = node; row = row; other = column_number column }
fault_of (fault.TooMany node) = record { kind = 4; node = node; row = 0; other = 0 }
fault_of (fault.Overlap node one two) = record { kind = 5; node = node; row = one; other = two }

-- the row under which a segment passed, 0 for none (own)
abbrev pub row_in : Option Passed → ℕ
row_in (Some p) = p.row
row_in None = 0

-- the number of a segment that passed, 0 for none (own)
abbrev pub number_in : Option Passed → ℕ
number_in (Some p) = p.number
number_in None = 0

-- an answer without a pair (own)
abbrev pub answered : (answer reason : ℕ) → CHeard
answered answer reason = record {
  number = 0;
  pair = no_pair;
  answer = answer;
  reason = reason;
  passed = false;
  row = 0;
}

-- what a node answers to a datagram, as numbers (own)
abbrev pub told_of : NodeArrival → CHeard
told_of (told.Bad fault) = answered 0 (datagram_number fault)
told_of told.NoConnection = answered 13 0
told_of (told.At pair arrived) = record {
  number = number_in (passed_of arrived);
  pair = told_pair pair;
  answer = arrival_number arrived.arrival;
  reason = reason_number arrived.arrival;
  passed = is_some arrived.passed;
  row = row_in (passed_of arrived);
}

-- what a stack answers to a datagram, as numbers (own)
abbrev pub heard_of : Heard → CHeard
heard_of (heard.Told answer) = told_of answer
heard_of (heard.Moved answer) = told_of answer
heard_of (heard.Refused why) = answered 4 (verdict_number why)
heard_of (heard.Knocks pair) = record {
  number = 0;
  pair = told_pair pair;
  answer = 14;
  reason = 0;
  passed = false;
  row = 0;
}

-- where an end stands, as numbers (own)
abbrev pub state_of : Front → CState
state_of f = record { una = f.una; next = f.next; phase = phase_number f.phase }
