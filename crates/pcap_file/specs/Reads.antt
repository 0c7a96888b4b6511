-- What one call of a reader of packets does (own).
use Rattle.std.specs.Prelude.{◌≡◌, ℕ, ◌+◌, ◌-◌, ◌<◌, ◌≤◌, ◌==◌, if◌then◌else◌, Bool, true, false, nat_le, List, [], ◌∷◌, ◌++◌, length, drop, Option, Some, None, Result, Ok, Err}
use Rattle.std.specs.List.{All}
use Rattle.book_base.specs.Hexadecimal.{IsByte}
use Rattle.ao_base.specs.Outside.{Side, Gave, Rose, IsAtEnd, told}
use Rattle.book_pcap.specs.declared.pcap_head.Head.{Head}
use Rattle.book_pcap.specs.declared.pcap_head.HeadFault.{HeadFault}
use Rattle.book_base.specs.Fronts.{Front, Ends, Faulted, Leads}
use Rattle.book_pcap.specs.Packets.{opened, Kept, RecordFault, Broken, record_at, datagram_of, most_capture, Packet, Packets, with_packet, packets_in, packets_of}
use Rattle.book_pcap.specs.Packets.{BadHead as head_refused, BadRecord as record_refused}
use Rattle.pcap_file.specs.declared.packets.PacketStep.{PacketStep}
use Rattle.pcap_file.specs.declared.packets.PacketStep.TheVariants as step

-- a reader of packets is: the bytes that it took and hasn't handed out, the number of bytes that it took, the number of packets that were shown, what it read in the header, whether a call has answered anything but Packet, and the packet of the last call, where it answered Packet
pub record Reading : Type 0 where
  pub kept : List ℕ
  pub taken : ℕ
  pub count : ℕ
  pub head : Option Head
  pub over : Bool
  pub packet : Option Packet

-- the header, where it wasn't read before, and what follows it, or its fault
abbrev pub opened_from : Option Head → List ℕ → Result (Head × List ℕ) HeadFault
opened_from (Some head) text = Ok (head, text)
opened_from None text = opened text

-- how many bytes the header takes, where it wasn't read before
abbrev pub header_length : Option Head → ℕ
header_length (Some head) = 0
header_length None = 24

-- how many bytes of header a call has passed over
abbrev pub passed : (before now : Option Head) → ℕ
passed before None = 0
passed before (Some head) = header_length before

-- the packet is shown whose record stands at the front of what was kept, what was given and what the source has left
pub record Shows (before now : Reading) (source_now : Side) (text : List ℕ) : Type 0 where
  pub head : Head
  pub body : List ℕ
  pub packet : Kept
  pub opens : opened_from before.head text ≡ Ok (head, body)
  pub whole : record_at head.order body ≡ Leads packet (now.kept ++ told source_now.bytes)
  pub known : now.head ≡ Some head
  pub shown : now.packet ≡ Some (record { number = before.count + 1; seconds = packet.seconds; datagram = datagram_of head.link packet.bytes })
  pub count : now.count ≡ before.count + 1
  pub within : now.taken - length now.kept ≤ most_capture
  pub going : now.over ≡ false

-- no packet is shown, and no call may follow; all is kept but a header that was read
pub record Stops (before now : Reading) (given : List ℕ) : Type 0 where
  pub packet : now.packet ≡ None
  pub over : now.over ≡ true
  pub count : now.count ≡ before.count
  pub kept : now.kept ≡ drop (passed before.head now.head) (before.kept ++ given)

-- the header is one, and so is what it says and what follows it
abbrev pub Opening : Reading → Reading → List ℕ → (Head → List ℕ → Type 0) → Type 0
Opening before now text P = (head : Head) × (body : List ℕ) × (opened_from before.head text ≡ Ok (head, body)) × (now.head ≡ Some head) × P head body

-- what each answer says, where the content was this text
abbrev pub Answers : Reading → Reading → Side → Side → List ℕ → List ℕ → PacketStep → Type 0
Answers before now source_before source_now given text step.Packet = Shows before now source_now text
Answers before now source_before source_now given text step.End =
    Stops before now given × Opening before now text (λ head body. body ≡ []) × IsAtEnd source_now × (now.kept ≡ []) × (now.taken ≤ most_capture)
Answers before now source_before source_now given text step.Fault = Stops before now given × Rose source_before source_now
Answers before now source_before source_now given text step.TooLong = Stops before now given × (most_capture < now.taken) × Opening before now text (λ head body. Unit {0})
Answers before now source_before source_now given text (step.BadHead fault) =
    Stops before now given × (before.head ≡ None) × (now.head ≡ None) × (opened_from before.head text ≡ Err fault) × (opened_from before.head (before.kept ++ given) ≡ Err fault)
Answers before now source_before source_now given text (step.BadRecord n) =
    Stops before now given × (n ≡ before.count + 1) × Opening before now text (λ head body. record_at head.order body ≡ Faulted Broken)
    × Opening before now (before.kept ++ given) (λ head body. record_at head.order body ≡ Faulted Broken)

-- a whole record stands there
abbrev pub is_whole : Front Kept RecordFault → Bool
is_whole Ends = false
is_whole (Faulted Broken) = false
is_whole (Leads packet rest) = true

-- a whole record stands there, and ends within the most bytes of a file, of which so many were taken
abbrev pub ends_within : ℕ → Front Kept RecordFault → Bool
ends_within taken Ends = false
ends_within taken (Faulted Broken) = false
ends_within taken (Leads packet rest) = nat_le (taken - length rest) most_capture

-- the next packet needs no source: the header was read, and the next record is kept whole and ends
-- within the most bytes of a file
abbrev pub is_ready : Option Head → List ℕ → ℕ → Bool
is_ready None kept taken = false
is_ready (Some head) kept taken = ends_within taken (record_at head.order kept)

-- the next packet of this reader needs no source (own)
abbrev pub has_whole : Reading → Bool
has_whole reading = is_ready reading.head reading.kept reading.taken

-- one call of `next`, in which the source gave these bytes
pub record Steps (before now : Reading) (source_before source_now : Side) (given : List ℕ) (result : PacketStep) : Type 0 where
  pub gave : Gave given source_before source_now
  pub bytes : All IsByte given
  pub taken : now.taken ≡ before.taken + length given
  pub counted : length now.kept ≤ now.taken
  pub bound : length now.kept ≤ 327696
  pub answers : Answers before now source_before source_now given ((before.kept ++ given) ++ told source_now.bytes) result

-- the answer that the record at the front wants
abbrev pub step_at : ℕ → Front Kept RecordFault → PacketStep
step_at count Ends = step.End
step_at count (Faulted Broken) = step.BadRecord (count + 1)
step_at count (Leads packet rest) = step.Packet

-- the answer that the header and what follows it want
abbrev pub step_behind : ℕ → Result (Head × List ℕ) HeadFault → PacketStep
step_behind count (Err fault) = step.BadHead fault
step_behind count (Ok body) = step_at count (record_at body.0.order body.1)

-- the answer that the content wants, where the source has these bytes left
abbrev pub wanted_step : Reading → List ℕ → PacketStep
wanted_step reading left = step_behind reading.count (opened_from reading.head (reading.kept ++ left))

-- the header isn't faulty
abbrev pub IsOpen : PacketStep → Type 0
IsOpen (step.BadHead fault) = ⊥
IsOpen _ = Unit {0}

-- an answer is the one that is wanted, or yields: always to Fault, and to TooLong where the header isn't faulty
abbrev pub Exactly : PacketStep → PacketStep → Type 0
Exactly wanted step.Fault = Unit {0}
Exactly wanted step.TooLong = IsOpen wanted
Exactly wanted answer = wanted ≡ answer

-- the packets behind a header that come after so many
abbrev pub packets_after : ℕ → Result (Head × List ℕ) HeadFault → Packets
packets_after count (Err fault) = record { list = []; fault = Some (head_refused fault) }
packets_after count (Ok body) = packets_in body.0 (count + 1) body.1

-- the packets of these bytes, where the reader stands: behind the header and the packets that it showed
abbrev pub packets_at : Reading → List ℕ → Packets
packets_at reading bytes = packets_after reading.count (opened_from reading.head bytes)

-- the packets that are still to come, where the source has these bytes left; of a new reader those of the file
abbrev pub packets_left : Reading → List ℕ → Packets
packets_left reading left = packets_at reading (reading.kept ++ left)

-- a call goes on in the bytes that were kept and given: it passes over the next record, whose packet it shows, whatever follows; or it ends where their packets do
abbrev pub GoesOn : Reading → Reading → List ℕ → PacketStep → Type 0
GoesOn before now text step.Packet =
    (past : List ℕ) × (p : Packet) × (text ≡ past ++ now.kept) × (now.packet ≡ Some p) × (16 ≤ length past) × ((more : List ℕ) → packets_at before (past ++ more) ≡ with_packet p (packets_at now more))
GoesOn before now text step.End = packets_at before text ≡ record { list = []; fault = None }
GoesOn before now text (step.BadHead fault) = packets_at before text ≡ record { list = []; fault = Some (head_refused fault) }
GoesOn before now text (step.BadRecord n) = packets_at before text ≡ record { list = []; fault = Some (record_refused n) }
GoesOn before now text _ = Unit {0}

-- a call goes on in the packets of the file: it shows the next one, or ends where they do
abbrev pub Walks : Reading → Reading → List ℕ → List ℕ → PacketStep → Type 0
Walks before now left left_now step.Packet = (p : Packet) × (now.packet ≡ Some p) × (packets_left before left ≡ with_packet p (packets_left now left_now))
Walks before now left left_now step.End = packets_left before left ≡ record { list = []; fault = None }
Walks before now left left_now (step.BadHead fault) = packets_left before left ≡ record { list = []; fault = Some (head_refused fault) }
Walks before now left left_now (step.BadRecord n) = packets_left before left ≡ record { list = []; fault = Some (record_refused n) }
Walks before now left left_now _ = Unit {0}

-- a packet, or the end
abbrev pub IsPacketOrEnd : PacketStep → Type 0
IsPacketOrEnd step.Packet = Unit {0}
IsPacketOrEnd step.End = Unit {0}
IsPacketOrEnd _ = ⊥

-- with these bytes left the limit isn't passed, nothing is faulty and the count doesn't rise
pub record IsQuiet (reading : Reading) (source_before source_now : Side) (left : List ℕ) : Type 0 where
  pub told : source_before.bytes ≡ Some left
  pub most : reading.taken + length left ≤ most_capture
  pub sound : IsPacketOrEnd (wanted_step reading left)
  pub quiet : ¬ Rose source_before source_now

-- these packets, and then a packet that is passed over or not
abbrev pub and_packet : List Packet → Packet → List Packet
and_packet shown p = if length p.datagram == 0 then shown else shown ++ p ∷ []

-- these packets in front of others
abbrev pub in_front : List Packet → Packets → Packets
in_front shown others = record { list = shown ++ others.list; fault = others.fault }
