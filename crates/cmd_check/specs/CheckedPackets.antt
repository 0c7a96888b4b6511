-- What a check of a pcap file reads and writes, packet by packet (own). Its top is `Checks`.
use Rattle.std.specs.Prelude.{◌≡◌, ◌⊎◌, ℕ, ◌+◌, ◌<◌, ◌≤◌, Bool, List, [], ◌∷◌, ◌++◌, length, map, take}
use Rattle.std.specs.Prelude.{Some, None, Result, Ok, Err, IsOk}
use Rattle.std.specs.List.{All}
use Rattle.ao_base.specs.Outside.{Side, Gave, WasWritten, Rose, IsAtEnd, told}
use Rattle.book_keys.specs.Rows.{Table}
use Rattle.book_pcap.specs.Packets.{BadHead, BadRecord, FileFault, Packet, most_capture, opened}
use Rattle.book_pcap.specs.Packets.{packets_of}
use Rattle.book_cmd_check.specs.StoredPackets.{stored_packet}
use Rattle.book_cmd_check.specs.Captures.{Stored, capture_run, has_refusal}
use Rattle.pcap_file.specs.declared.packets.PacketStep.{PacketStep}
use Rattle.pcap_file.specs.declared.packets.PacketStep.TheVariants as step
use Rattle.book_base.specs.Hexadecimal.{IsByte}
use Rattle.pcap_file.specs.Reads.{GoesOn, Reading, Steps, and_packet, in_front, packets_at}
use Rattle.cmd_check.specs.Judges.{HasHeard, Judging}
use Rattle.cmd_check.specs.declared.halt.Halt.{Halt}
use Rattle.cmd_check.specs.declared.halt.Halt.TheVariants.{Line, Head, Record, TooLong, Read, Write}
use Rattle.cmd_check.specs.declared.halt.Halt.TheVariants.{Memory}
use Rattle.cmd_check.specs.Gatherings.{BreaksLines, Written}

-- the most bytes that are taken past the record of a packet before its line is written: those of
-- the longest record and 65,536 (own)
abbrev pub most_ahead : ℕ
most_ahead = 327696

-- the most bytes that are taken past the last record that was read; before the first one those of
-- the header besides (own)
abbrev pub most_behind : ℕ
most_behind = 327720

-- the lines that are written of these packets (own)
abbrev pub written_of : List Table → List Packet → List ℕ
written_of tables packets = capture_run tables (map stored_packet packets)

-- the stored segments of the packets of a file (own)
abbrev pub segments_of : List ℕ → List Stored
segments_of file = map stored_packet (packets_of file).list

-- the whole file was read, and the lines of all its packets written (own)
pub record Finishes (tables : List Table) (given : List ℕ) (source_now out_before out_now : Side)
    (amiss : Bool) : Type 0 where
  pub at_end : IsAtEnd source_now
  pub within : length given ≤ most_capture
  pub faultless : (packets_of given).fault ≡ None
  pub amiss_is : amiss ≡ has_refusal tables (segments_of given)
  pub wrote : WasWritten (capture_run tables (segments_of given)) out_before out_now

-- these packets were read: they are those of the bytes in front, and whatever follows is read by
-- a reader that stands there, so the bytes in front are none, or end with a record; little more
-- was taken (own)
pub record HasRead (given : List ℕ) (read : List Packet) : Type 0 where
  pub front : List ℕ
  pub rest : List ℕ
  pub split : given ≡ front ++ rest
  pub few : length rest ≤ most_behind
  pub reader : Reading
  pub goes_on : (more : List ℕ) →
      packets_of (front ++ more) ≡ in_front read (packets_at reader more)

-- the header or a record is faulty: the lines of the packets before it were written (own)
pub record Refuses (tables : List Table) (given : List ℕ) (source_now out_before out_now : Side)
    (fault : FileFault) : Type 0 where
  pub has_read : HasRead given (packets_of given).list
  pub fault_is : (packets_of given).fault ≡ Some fault
  pub all : packets_of (given ++ told source_now.bytes) ≡ packets_of given
  pub wrote : WasWritten (capture_run tables (segments_of given)) out_before out_now

-- it ended between two packets: the lines of all packets before were written (own)
pub record Stops (tables : List Table) (given : List ℕ) (out_before out_now : Side) : Type 0 where
  pub read : List Packet
  pub has_read : HasRead given read
  pub wrote : WasWritten (written_of tables read) out_before out_now

-- more was given than the most bytes of a file, whose header isn't faulty: it ended between two
-- packets within those bytes (own)
pub record Exceeds (tables : List Table) (given : List ℕ) (out_before out_now : Side) : Type 0 where
  pub more : most_capture < length given
  pub header : IsOk (opened given)
  pub stops : Stops tables given out_before out_now
  pub within : length stops.has_read.front ≤ most_capture

-- memory ran out: the lines of all packets that were read were written, but for the last one
-- (own)
pub record Lacks (tables : List Table) (given : List ℕ) (out_before out_now : Side) : Type 0 where
  pub read : List Packet
  pub later : List Packet
  pub one : length later ≤ 1
  pub has_read : HasRead given (read ++ later)
  pub wrote : WasWritten (written_of tables read) out_before out_now

-- a write failed: of the line of the last packet that was read a front part was written; with its
-- record the bytes in front end, as no shorter part of them has that packet, and no more was
-- taken past it than the reader keeps (own)
pub record Breaks (tables : List Table) (given : List ℕ) (out_before out_now : Side) : Type 0 where
  pub read : List Packet
  pub last : Packet
  pub n : ℕ
  pub has_read : HasRead given (read ++ last ∷ [])
  pub alone : packets_of has_read.front ≡ record { list = read ++ last ∷ []; fault = None }
  pub least : (k : ℕ) → k < length has_read.front →
      length (packets_of (take k has_read.front)).list ≤ length read
  pub near : length has_read.rest ≤ most_ahead
  pub all_before : length (written_of tables read) ≤ n
  pub not_all : n < length (written_of tables (read ++ last ∷ []))
  pub wrote : WasWritten (take n (written_of tables (read ++ last ∷ []))) out_before out_now
  pub rose : Rose out_before out_now

-- how each end comes (own)
abbrev pub Ends : List Table → List ℕ → (source_before source_now out_before out_now : Side) →
    Result Bool Halt → Type 0
Ends tables given source_before source_now out_before out_now (Ok amiss) =
    Finishes tables given source_now out_before out_now amiss
Ends tables given source_before source_now out_before out_now (Err (Line n kind)) = ⊥
Ends tables given source_before source_now out_before out_now (Err (Head fault)) =
    Refuses tables given source_now out_before out_now (BadHead fault)
Ends tables given source_before source_now out_before out_now (Err (Record n)) =
    Refuses tables given source_now out_before out_now (BadRecord n)
Ends tables given source_before source_now out_before out_now (Err TooLong) =
    Exceeds tables given out_before out_now
Ends tables given source_before source_now out_before out_now (Err Read) =
    Rose source_before source_now × Stops tables given out_before out_now
Ends tables given source_before source_now out_before out_now (Err Write) =
    Breaks tables given out_before out_now
Ends tables given source_before source_now out_before out_now (Err Memory) =
    Lacks tables given out_before out_now

-- a check of a pcap file, in which the source gave these bytes (own)
pub record Checks (tables : List Table) (given : List ℕ)
    (source_before source_now out_before out_now : Side) (result : Result Bool Halt)
    : Type 0 where
  pub gave : Gave given source_before source_now
  pub bytes : All IsByte given
  pub few : length given ≤ most_capture + most_ahead
  pub ends : Ends tables given source_before source_now out_before out_now result

-- one more packet is judged, and its line gathered, unless it has no datagram (own)
pub record JudgedPacket (before now : Judging) (shown : List Packet) (p : Packet)
    (lines_before lines_now : List ℕ) : Type 0 where
  pub text : List ℕ
  pub tables_same : now.checking.tables ≡ before.checking.tables
  pub heard : HasHeard now (map stored_packet (and_packet shown p))
  pub whole : written_of before.checking.tables (and_packet shown p) ≡ written_of
      before.checking.tables shown
      ++ text
  pub one : 0 < length text → and_packet shown p ≡ shown ++ p ∷ []
  pub gathered : lines_now ≡ lines_before ++ text

-- what became of one more packet behind these: judged, its line gathered; or for want of memory none
-- gathered (own)
abbrev pub JudgesPacket : {E : Type 0} → Judging → Judging → List Packet → Packet →
    (lines_before lines_now : List ℕ) → Result (Unit {0}) E → Type 0
JudgesPacket before now shown p lines_before lines_now (Ok done) =
    JudgedPacket before now shown p lines_before lines_now
JudgesPacket before now shown p lines_before lines_now (Err error) = lines_now ≡ lines_before

-- the lines that were gathered wait, since nothing was asked of the source (own)
pub record Wait (given lines_before lines_now : List ℕ) (out_before out_now : Side)
    : Type 0 where
  pub nothing : given ≡ []
  pub lines : lines_now ≡ lines_before
  pub out : out_now ≡ out_before

-- before the source is asked the lines that were gathered are written; they may wait only for a
-- packet that it wasn't asked for (own)
abbrev pub InTime : (given lines_before lines_now : List ℕ) → Side → Side → PacketStep → Type 0
InTime given lines_before lines_now out_before out_now step.Packet =
    Wait given lines_before lines_now out_before out_now
    ⊎ Written lines_before lines_now out_before out_now
InTime given lines_before lines_now out_before out_now _ =
    Written lines_before lines_now out_before out_now

-- the reader goes to the next packet or to an end, and the lines that were gathered are written in
-- time (own)
pub record Goes (before now : Reading) (source_before source_now : Side)
    (given lines_before lines_now : List ℕ) (out_before out_now : Side) (next : PacketStep)
    : Type 0 where
  pub steps : Steps before now source_before source_now given next
  pub goes : GoesOn before now (before.kept ++ given) next
  pub in_time : InTime given lines_before lines_now out_before out_now next

-- the lines that were gathered couldn't be written, and the source wasn't asked (own)
pub record Sticks (source_before source_now : Side) (given lines : List ℕ)
    (out_before out_now : Side) : Type 0 where
  pub nothing : given ≡ []
  pub source : source_now ≡ source_before
  pub breaks : BreaksLines lines out_before out_now

-- the reader goes on, or can't since the lines that were gathered couldn't be written (own)
abbrev pub Moves : {E : Type 0} → Reading → Reading → (source_before source_now : Side) →
    (given lines_before lines_now : List ℕ) → (out_before out_now : Side) →
    Result PacketStep E → Type 0
Moves before now source_before source_now given lines_before lines_now out_before out_now (Ok next) =
    Goes before now source_before source_now given lines_before lines_now out_before out_now next
Moves before now source_before source_now given lines_before lines_now out_before out_now (Err _) =
    Sticks source_before source_now given lines_before out_before out_now
