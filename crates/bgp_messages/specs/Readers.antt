-- A reader of the messages of a stream.
use Rattle.std.specs.Prelude.{◌≡◌, ℕ, ◌+◌, ◌-◌, ◌<◌, ◌≤◌, min, nat_le, Bool, true, false, List, [], ◌∷◌, ◌++◌, length, take, drop, slice_index, Option, Some, None, IsSome}
use Rattle.book_bgp.specs.declared.bgp_fault.BgpFault.{BgpFault}
use Rattle.book_base.specs.Fronts.{Front, Ends, Faulted, Leads}
use Rattle.book_bgp.specs.Messages.{Message, message_front, header_length, message_length, messages, place_of, behind, fault_in}
use Rattle.bgp_messages.specs.declared.reader.Fed.{Fed}
use Rattle.bgp_messages.specs.declared.reader.Found.{Found}
use Rattle.bgp_messages.specs.declared.reader.Found.TheVariants as found
use Rattle.bgp_messages.specs.declared.reader.State.{State}
use Rattle.bgp_messages.specs.declared.reader.State.TheVariants as state

-- a reader is: the bytes of its unfinished message, the message that the last feed completed, the number of bytes of whole messages so far, and its fault, which the bytes then end in
pub record Reading : Type 0 where
  pub unfinished : List ℕ
  pub message : Option Message
  pub place : ℕ
  pub fault : Option BgpFault

-- a reader that got no byte
abbrev pub new_reading : Reading
new_reading = record { unfinished = []; message = None; place = 0; fault = None }

-- the greatest place that a reader tells: 2^64 - 1
abbrev pub greatest_place : ℕ
greatest_place = 18446744073709551615

-- what a piece makes of a reader without a fault, by the front of its unfinished bytes with the piece
abbrev pub fed_by : Reading → List ℕ → Front Message BgpFault → Fed × Reading
fed_by r piece Ends =
    (record { used = length piece; found = found.More }, record { unfinished = r.unfinished ++ piece; message = None; place = r.place; fault = None })
fed_by r piece (Faulted fault) = (
  record { used = header_length - length r.unfinished; found = found.Fault fault },
  record { unfinished = take header_length (r.unfinished ++ piece); message = None; place = r.place; fault = Some fault },
)
fed_by r piece (Leads m rest) = (
  record { used = length piece - length rest; found = found.Message },
  record { unfinished = []; message = Some m; place = min (r.place + message_length m) greatest_place; fault = None },
)

-- the same for any reader: a fault stays
abbrev pub fed_after : Option BgpFault → Reading → List ℕ → Fed × Reading
fed_after (Some fault) r piece = (record { used = 0; found = found.Fault fault }, record r { message = None })
fed_after None r piece = fed_by r piece (message_front (r.unfinished ++ piece))

-- the answer to a piece, and the reader after it
abbrev pub fed : Reading → List ℕ → Fed × Reading
fed r piece = fed_after r.fault r piece

-- of what follows the messages, the bytes that a reader keeps: up to the end of a faulty header, else all
abbrev pub kept_of : Option BgpFault → List ℕ → List ℕ
kept_of None bytes = bytes
kept_of (Some fault) bytes = take header_length bytes

-- a reader that got these bytes, in whatever pieces
pub record StandsFor (r : Reading) (bytes : List ℕ) : Type 0 where
  pub place : r.place ≡ min (place_of bytes) greatest_place
  pub unfinished : r.unfinished ≡ kept_of (fault_in bytes) (behind bytes)
  pub fault : r.fault ≡ fault_in bytes

-- the message, where there is one
abbrev pub listed : Option Message → List Message
listed None = []
listed (Some m) = m ∷ []

-- the reader got these further bytes, and completed the one message among them, where there is one
pub record Reads (bytes more : List ℕ) (now : Reading) : Type 0 where
  pub stands : StandsFor now (bytes ++ more)
  pub messages_more : messages (bytes ++ more) ≡ messages bytes ++ listed now.message

-- the message that whole bytes spell
abbrev pub message_in : List ℕ → Message
message_in bytes = record { kind = slice_index bytes 18; body = drop header_length bytes }

-- a reader by what its gathered bytes are
abbrev pub seen : State → List ℕ → ℕ → Reading
seen state.Unfinished bytes place = record { unfinished = bytes; message = None; place = place; fault = None }
seen state.Whole bytes place = record { unfinished = []; message = Some (message_in bytes); place = place; fault = None }
seen (state.Faulty fault) bytes place = record { unfinished = bytes; message = None; place = place; fault = Some fault }

-- the front ends no message yet
abbrev pub is_unfinished : Front Message BgpFault → Bool
is_unfinished Ends = true
is_unfinished (Faulted fault) = false
is_unfinished (Leads m rest) = false

-- the gathered bytes are what the state says, as far as later calls need it
abbrev pub is_kept : State → List ℕ → Bool
is_kept state.Unfinished bytes = is_unfinished (message_front bytes)
is_kept state.Whole bytes = nat_le header_length (length bytes)
is_kept (state.Faulty fault) bytes = true

-- what was gathered of a piece, by what was found
abbrev pub GathersBy : Found → List ℕ → List ℕ → List ℕ → ℕ → Type 0
GathersBy found.More before piece now used = (message_front (before ++ piece) ≡ Ends) × (used ≡ length piece) × (now ≡ before ++ piece)
GathersBy found.Message before piece now used =
    (rest : List ℕ) × (message_front (before ++ piece) ≡ Leads (message_in now) rest) × (used ≡ length piece - length rest) × (header_length ≤ length now) × (0 < used)
GathersBy (found.Fault fault) before piece now used =
    (message_front (before ++ piece) ≡ Faulted fault) × (used ≡ header_length - length before) × (now ≡ take header_length (before ++ piece))

-- the same, and the taken bytes are those that were used
pub record Gathers (before piece now : List ℕ) (fed : Fed) : Type 0 where
  pub taken : now ≡ before ++ take fed.used piece
  pub within : fed.used ≤ length piece
  pub by : GathersBy fed.found before piece now fed.used

-- what a caller needs for its next call: a message is there, and took a byte; or the whole piece was used
abbrev pub IsUsed : Found → ℕ → List ℕ → Reading → Type 0
IsUsed found.More used piece now = used ≡ length piece
IsUsed found.Message used piece now = (0 < used) × IsSome now.message
IsUsed (found.Fault fault) used piece now = Unit {0}
