-- What is read of a capture that is checked, and written of it (own). Its top is `Checks`.
use Rattle.std.specs.Prelude.{◌≡◌, ℕ, ◌<◌, ◌≤◌, Bool, List, [], ◌∷◌, ◌++◌, length, take, Option}
use Rattle.std.specs.Prelude.{Some, None, Result, Ok, Err}
use Rattle.std.specs.List.{All}
use Rattle.ao_base.specs.Outside.{Side, Gave, WasWritten, Rose, IsAtEnd, told}
use Rattle.book_base.specs.declared.address.Pair.{Pair}
use Rattle.book_base.specs.Hexadecimal.{IsByte}
use Rattle.book_keys.specs.Rows.{Table}
use Rattle.book_captures.specs.declared.capture_parts.CaptureFault.{CaptureFault}
use Rattle.book_captures.specs.Captures.{CapturePacket, capture_of}
use Rattle.book_cmd_check.specs.declared.given.GivenIsns.{GivenIsns}
use Rattle.book_cmd_check.specs.Captures.{Connection}
use Rattle.book_cmd_check.specs.Handshakes.{given_after}
use Rattle.book_sessions.specs.Sessions.{stored_of_packet}
use Rattle.book_sessions.specs.declared.class.PacketClass.{PacketClass}
use Rattle.book_sessions.specs.CheckedLines.{are_amiss, check_lines, check_text, is_amiss}
use Rattle.book_sessions.specs.CheckedLines.{listed_line, listed_lines, total_line}
use Rattle.book_sessions.specs.CheckedPackets.{checked_from, checked_packet, class_of}
use Rattle.book_sessions.specs.CheckedPackets.{classes_of, held_after}
use Rattle.capture_check.specs.declared.flows.Flows.{Flows}
use Rattle.capture_check.specs.Checkers.{StandsFor}
use Rattle.capture_walk.specs.Reads.{most_buffered, most_read}
use Rattle.capture_walk.specs.HasRead.{HasRead}
use Rattle.capture_walk.specs.declared.walking.WalkHalt.{WalkHalt}
use Rattle.capture_walk.specs.declared.walking.WalkHalt.TheVariants as halt
use Rattle.packet_check.specs.declared.tally.Tally.{Tally}
use Rattle.packet_check.specs.Tallies.{Tallies}

-- a packet was checked where these connections are held, and counted after others; this is its
-- line, if it is listed
pub record HearsPacket (tables : List Table) (all : Bool) (held : List Connection)
    (p : CapturePacket) (classes : List PacketClass) (entries : List (Pair × Flows))
    (tally : Tally) (line : List ℕ) : Type 0 where
  pub stands : StandsFor entries (held_after tables held (stored_of_packet p))
  pub tallies : Tallies tally
      (classes ++ class_of tables (checked_packet tables held p).content ∷ [])
  pub line_is : line ≡ listed_line all tables (checked_packet tables held p)

-- how a capture is to be checked: whether foreign segments are listed, by which tables, and where
-- which connections are held
pub record CheckAsked : Type 0 where
  pub all : Bool
  pub tables : List Table
  pub held : List Connection

-- how it is to be checked after given handshakes
abbrev pub asked_after : (all : Bool) → List Table → List GivenIsns → CheckAsked
asked_after all tables isns =
    record { all = all; tables = tables; held = given_after [] isns }

-- the connections that are held after packets
abbrev pub held_from : List Table → (held : List Connection) → List CapturePacket →
    List Connection
held_from tables held [] = held
held_from tables held (p ∷ ps) =
    held_from tables (held_after tables held (stored_of_packet p)) ps

-- these packets were checked and counted
pub record StandsAfter (q : CheckAsked) (tables : List Table) (all : Bool)
    (entries : List (Pair × Flows)) (tally : Tally) (packets : List CapturePacket)
    : Type 0 where
  pub tables_are : tables ≡ q.tables
  pub all_is : all ≡ q.all
  pub stands : StandsFor entries (held_from q.tables q.held packets)
  pub tallies : Tallies tally (classes_of q.tables (checked_from q.tables q.held packets))

-- the lines of packets, checked where these connections are held (own)
abbrev pub lines_from : (all : Bool) → List Table → List Connection → List CapturePacket →
    List ℕ
lines_from all tables held packets = listed_lines all tables (checked_from tables held packets)

-- a write failed: a front part of this text was written, and of what stands in front in it nothing
-- is missing (own)
pub record BreaksText (front text : List ℕ) (out_before out_now : Side) : Type 0 where
  pub n : ℕ
  pub at_least : length front ≤ n
  pub not_all : n < length text
  pub wrote : WasWritten (take n text) out_before out_now
  pub rose : Rose out_before out_now

-- the capture has this fault, whatever follows in the source (own)
pub record HasFault (given : List ℕ) (source_now : Side) (fault : CaptureFault) : Type 0 where
  pub has_read : HasRead given (capture_of given).packets
  pub fault_is : (capture_of given).fault ≡ Some fault
  pub all : capture_of (given ++ told source_now.bytes) ≡ capture_of given

-- the whole capture was read, and has no fault; or it has this fault (own)
abbrev pub IsWhole : List ℕ → (source_now : Side) → Option CaptureFault → Type 0
IsWhole given source_now None = IsAtEnd source_now × ((capture_of given).fault ≡ None)
IsWhole given source_now (Some fault) = HasFault given source_now fault

-- the whole capture was read, and the lines of all its packets and the last line written; and this
-- says whether something is amiss (own)
pub record Finishes (all : Bool) (tables : List Table) (isns : List GivenIsns) (given : List ℕ)
    (source_now out_before out_now : Side) (amiss : Bool) : Type 0 where
  pub at_end : IsAtEnd source_now
  pub faultless : (capture_of given).fault ≡ None
  pub wrote : WasWritten (check_text all tables isns (capture_of given).packets)
      out_before out_now
  pub amiss_is : amiss ≡ is_amiss tables isns (capture_of given).packets

-- the capture has this fault: the lines of the packets before it and the last line were written
-- (own)
pub record Refuses (all : Bool) (tables : List Table) (isns : List GivenIsns) (given : List ℕ)
    (source_now out_before out_now : Side) (fault : CaptureFault) : Type 0 where
  pub has_fault : HasFault given source_now fault
  pub wrote : WasWritten (check_text all tables isns (capture_of given).packets)
      out_before out_now

-- it ended between two packets: the lines of all packets before were written, and little more was
-- taken than their parts (own)
pub record Stops (all : Bool) (tables : List Table) (isns : List GivenIsns) (given : List ℕ)
    (out_before out_now : Side) : Type 0 where
  pub read : List CapturePacket
  pub has_read : HasRead given read
  pub wrote : WasWritten (check_lines all tables isns read) out_before out_now

-- memory ran out at a packet: the lines of all packets that were read were written, but perhaps for
-- that of the last one, and little more was taken than their parts (own)
pub record LacksPacket (all : Bool) (tables : List Table) (isns : List GivenIsns)
    (given : List ℕ) (out_before out_now : Side) : Type 0 where
  pub read : List CapturePacket
  pub later : List CapturePacket
  pub one : length later ≤ 1
  pub has_read : HasRead given (read ++ later)
  pub near : length has_read.rest ≤ most_buffered
  pub wrote : WasWritten (check_lines all tables isns read) out_before out_now

-- memory ran out for the last line: the lines of all packets were written (own)
pub record LacksTotal (all : Bool) (tables : List Table) (isns : List GivenIsns)
    (given : List ℕ) (source_now out_before out_now : Side) : Type 0 where
  pub fault : Option CaptureFault
  pub whole : IsWhole given source_now fault
  pub wrote : WasWritten (check_lines all tables isns (capture_of given).packets)
      out_before out_now

-- a write failed at a packet: of the lines of all packets that were read a front part was written,
-- in which nothing is missing of the lines before the last one, and little more was taken than
-- their parts (own)
pub record BreaksPacket (all : Bool) (tables : List Table) (isns : List GivenIsns)
    (given : List ℕ) (out_before out_now : Side) : Type 0 where
  pub read : List CapturePacket
  pub last : CapturePacket
  pub has_read : HasRead given (read ++ last ∷ [])
  pub near : length has_read.rest ≤ most_buffered
  pub breaks : BreaksText (check_lines all tables isns read)
      (check_lines all tables isns (read ++ last ∷ [])) out_before out_now

-- a write of the last line failed: of all that is to be written a front part was, in which nothing
-- is missing of the packets' lines (own)
pub record BreaksTotal (all : Bool) (tables : List Table) (isns : List GivenIsns)
    (given : List ℕ) (source_now out_before out_now : Side) : Type 0 where
  pub fault : Option CaptureFault
  pub whole : IsWhole given source_now fault
  pub breaks : BreaksText (check_lines all tables isns (capture_of given).packets)
      (check_text all tables isns (capture_of given).packets) out_before out_now

-- memory ran out: at a packet, or for the last line (own)
pub data Lacks (all : Bool) (tables : List Table) (isns : List GivenIsns) (given : List ℕ)
    (source_now out_before out_now : Side) : Type 0 where
  ForPacket : LacksPacket all tables isns given out_before out_now →
      Lacks all tables isns given source_now out_before out_now
  ForTotal : LacksTotal all tables isns given source_now out_before out_now →
      Lacks all tables isns given source_now out_before out_now

-- a write failed: of a packet's line, or of the last line (own)
pub data Breaks (all : Bool) (tables : List Table) (isns : List GivenIsns) (given : List ℕ)
    (source_now out_before out_now : Side) : Type 0 where
  AtPacket : BreaksPacket all tables isns given out_before out_now →
      Breaks all tables isns given source_now out_before out_now
  AtTotal : BreaksTotal all tables isns given source_now out_before out_now →
      Breaks all tables isns given source_now out_before out_now

-- how each end comes (own)
abbrev pub Ends : (all : Bool) → List Table → List GivenIsns → List ℕ →
    (source_before source_now out_before out_now : Side) → Result Bool WalkHalt → Type 0
Ends all tables isns given source_before source_now out_before out_now (Ok amiss) =
    Finishes all tables isns given source_now out_before out_now amiss
Ends all tables isns given source_before source_now out_before out_now
    (Err (halt.Broken fault)) =
    Refuses all tables isns given source_now out_before out_now fault
Ends all tables isns given source_before source_now out_before out_now (Err halt.TooLong) =
    (most_read < length given) × Stops all tables isns given out_before out_now
Ends all tables isns given source_before source_now out_before out_now (Err halt.Read) =
    Rose source_before source_now × Stops all tables isns given out_before out_now
Ends all tables isns given source_before source_now out_before out_now (Err halt.Write) =
    Breaks all tables isns given source_now out_before out_now
Ends all tables isns given source_before source_now out_before out_now (Err halt.Memory) =
    Lacks all tables isns given source_now out_before out_now

-- a capture is checked, of which the source gave these bytes (own)
pub record Checks (all : Bool) (tables : List Table) (isns : List GivenIsns) (given : List ℕ)
    (source_before source_now out_before out_now : Side) (result : Result Bool WalkHalt)
    : Type 0 where
  pub gave : Gave given source_before source_now
  pub bytes : All IsByte given
  pub ends : Ends all tables isns given source_before source_now out_before out_now result

-- how the last line ends, of packets that count as these, of a capture that has this fault or none
abbrev pub EndsTotal : List PacketClass → Option CaptureFault → (out_before out_now : Side) →
    Result Bool WalkHalt → Type 0
EndsTotal classes fault out_before out_now (Ok amiss) =
    (fault ≡ None)
    × ((amiss ≡ are_amiss classes) × WasWritten (total_line classes) out_before out_now)
EndsTotal classes fault out_before out_now (Err (halt.Broken why)) =
    (fault ≡ Some why) × WasWritten (total_line classes) out_before out_now
EndsTotal classes fault out_before out_now (Err halt.Write) =
    BreaksText [] (total_line classes) out_before out_now
EndsTotal classes fault out_before out_now (Err halt.Memory) = WasWritten [] out_before out_now
EndsTotal classes fault out_before out_now (Err other) = ⊥
