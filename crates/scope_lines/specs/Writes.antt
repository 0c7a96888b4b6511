-- What is read of a capture and written of it, packet by packet (own). Its top is `Writes`.
use Rattle.std.specs.Prelude.{◌≡◌, ℕ, ◌+◌, ◌<◌, ◌≤◌, List, [], ◌∷◌, ◌++◌, length, take, Option, Some, None, Result, Ok, Err}
use Rattle.std.specs.List.{All}
use Rattle.ao_base.specs.Outside.{Side, Gave, WasWritten, Rose, IsAtEnd, told}
use Rattle.book_captures.specs.declared.capture_parts.CaptureFault.{CaptureFault}
use Rattle.book_captures.specs.declared.reasons.Skipped.{Skipped}
use Rattle.book_captures.specs.Frames.{Datagram}
use Rattle.capture_reader.specs.declared.frames.FoundDatagram.{FoundDatagram}
use Rattle.capture_reader.specs.Found.{seen}
use Rattle.book_captures.specs.Captures.{CapturePacket, capture_of}
use Rattle.book_captures.specs.PacketLines.{packet_line, packet_lines}
use Rattle.book_base.specs.Hexadecimal.{IsByte}
use Rattle.capture_walk.specs.Reads.{most_read, most_buffered}
use Rattle.scope_lines.specs.declared.write.LinesHalt.{LinesHalt}
use Rattle.scope_lines.specs.declared.write.LinesHalt.TheVariants as halt
use Rattle.capture_walk.specs.HasRead.{HasRead}
use Rattle.capture_walk.specs.declared.walking.WalkEnd.{WalkEnd}
use Rattle.capture_walk.specs.declared.walking.WalkHalt.{WalkHalt}
use Rattle.capture_walk.specs.declared.walking.WalkHalt.TheVariants as walk_halt

-- the whole capture was read, and the lines of all its packets written (own)
pub record Finishes (given : List ℕ) (source_now out_before out_now : Side) : Type 0 where
  pub at_end : IsAtEnd source_now
  pub faultless : (capture_of given).fault ≡ None
  pub wrote : WasWritten (packet_lines (capture_of given).packets) out_before out_now

-- the capture has this fault, whatever follows in the source: the lines of the packets before it
-- were written, and little more was taken than their parts (own)
pub record Refuses (given : List ℕ) (source_now out_before out_now : Side) (fault : CaptureFault)
    : Type 0 where
  pub has_read : HasRead given (capture_of given).packets
  pub fault_is : (capture_of given).fault ≡ Some fault
  pub all : capture_of (given ++ told source_now.bytes) ≡ capture_of given
  pub wrote : WasWritten (packet_lines (capture_of given).packets) out_before out_now

-- it ended between two packets: the lines of all packets before were written, and little more was
-- taken than their parts (own)
pub record Stops (given : List ℕ) (out_before out_now : Side) : Type 0 where
  pub read : List CapturePacket
  pub has_read : HasRead given read
  pub wrote : WasWritten (packet_lines read) out_before out_now

-- memory ran out: the lines of all packets that were read were written, but for the last one, and
-- little more was taken than their parts (own)
pub record Lacks (given : List ℕ) (out_before out_now : Side) : Type 0 where
  pub read : List CapturePacket
  pub later : List CapturePacket
  pub one : length later ≤ 1
  pub has_read : HasRead given (read ++ later)
  pub near : length has_read.rest ≤ most_buffered
  pub wrote : WasWritten (packet_lines read) out_before out_now

-- a write failed: of the line of the last packet that was read a front part was written, and little
-- more was taken than its part (own)
pub record Breaks (given : List ℕ) (out_before out_now : Side) : Type 0 where
  pub read : List CapturePacket
  pub last : CapturePacket
  pub n : ℕ
  pub has_read : HasRead given (read ++ last ∷ [])
  pub near : length has_read.rest ≤ most_buffered
  pub not_all : n < length (packet_line last ++ 10 ∷ [])
  pub wrote : WasWritten (packet_lines read ++ take n (packet_line last ++ 10 ∷ [])) out_before out_now
  pub rose : Rose out_before out_now

-- how each end comes (own)
abbrev pub Ends : List ℕ → (source_before source_now out_before out_now : Side) →
    Result (Unit {0}) LinesHalt → Type 0
Ends given source_before source_now out_before out_now (Ok done) =
    Finishes given source_now out_before out_now
Ends given source_before source_now out_before out_now (Err (halt.Broken fault)) =
    Refuses given source_now out_before out_now fault
Ends given source_before source_now out_before out_now (Err halt.TooLong) =
    (most_read < length given) × Stops given out_before out_now
Ends given source_before source_now out_before out_now (Err halt.Read) =
    Rose source_before source_now × Stops given out_before out_now
Ends given source_before source_now out_before out_now (Err halt.Write) =
    Breaks given out_before out_now
Ends given source_before source_now out_before out_now (Err halt.Memory) =
    Lacks given out_before out_now

-- the lines of a capture are written, of which the source gave these bytes (own)
pub record Writes (given : List ℕ) (source_before source_now out_before out_now : Side)
    (result : Result (Unit {0}) LinesHalt) : Type 0 where
  pub gave : Gave given source_before source_now
  pub bytes : All IsByte given
  pub ends : Ends given source_before source_now out_before out_now result

-- how the lines end where the walk ended so
abbrev pub lines_ended : Result WalkEnd WalkHalt → Result (Unit {0}) LinesHalt
lines_ended (Ok how) = Ok tt
lines_ended (Err (walk_halt.Broken fault)) = Err (halt.Broken fault)
lines_ended (Err walk_halt.TooLong) = Err halt.TooLong
lines_ended (Err walk_halt.Read) = Err halt.Read
lines_ended (Err walk_halt.Write) = Err halt.Write
lines_ended (Err walk_halt.Memory) = Err halt.Memory

-- the datagram that was found in this frame
abbrev pub found_in : List ℕ → Result FoundDatagram Skipped → Result Datagram Skipped
found_in frame (Ok d) = Ok (seen frame d)
found_in frame (Err why) = Err why
