-- What is read of a capture, heard of it and told in time (own). Its top is `Walks`.
use Rattle.std.specs.Prelude.{◌≡◌, ℕ, ◌<◌, ◌≤◌, List, [], ◌∷◌, ◌++◌, length, take, Option, Some}
use Rattle.std.specs.Prelude.{None, Result, Ok, Err}
use Rattle.std.specs.List.{All}
use Rattle.ao_base.specs.Outside.{Side, Gave, WasWritten, Rose, IsAtEnd, told as left_in}
use Rattle.book_base.specs.Hexadecimal.{IsByte}
use Rattle.book_captures.specs.declared.capture_parts.CaptureFault.{CaptureFault}
use Rattle.book_captures.specs.Captures.{CapturePacket, capture_of}
use Rattle.capture_walk.specs.Reads.{Reading, most_buffered, most_read}
use Rattle.capture_walk.specs.HasRead.{HasRead, HasTaken}
use Rattle.capture_walk.specs.declared.walking.WalkEnd.{WalkEnd}
use Rattle.capture_walk.specs.declared.walking.WalkEnd.TheVariants as end
use Rattle.capture_walk.specs.declared.walking.WalkHalt.{WalkHalt}
use Rattle.capture_walk.specs.declared.walking.WalkHalt.TheVariants as halt

-- between two parts: these bytes were given, these packets shown and heard, and all that is told of
-- them was written (own)
pub record Between (told : List CapturePacket → List ℕ) (stands : List CapturePacket → Type 0)
    (reader : Reading) (given : List ℕ) (shown : List CapturePacket)
    (source_before source_now out_before out_now : Side) : Type 0 where
  pub taken : HasTaken reader given shown source_before source_now
  pub heard : stands shown
  pub wrote : WasWritten (told shown) out_before out_now

-- the whole capture was read, all its packets heard, and all that is told of them was written (own)
pub record Finishes (told : List CapturePacket → List ℕ) (stands : List CapturePacket → Type 0)
    (given : List ℕ) (source_now out_before out_now : Side) : Type 0 where
  pub has_read : HasRead given (capture_of given).packets
  pub at_end : IsAtEnd source_now
  pub faultless : (capture_of given).fault ≡ None
  pub heard : stands (capture_of given).packets
  pub wrote : WasWritten (told (capture_of given).packets) out_before out_now

-- the hearer stopped at a packet, which the reader shows: all that is told as far as that packet
-- was written, and no more was taken past its part than the reader keeps (own)
pub record Reaches (told : List CapturePacket → List ℕ)
    (stops : List CapturePacket → CapturePacket → Type 0)
    (reader : Reading) (given : List ℕ) (out_before out_now : Side) : Type 0 where
  pub read : List CapturePacket
  pub last : CapturePacket
  pub has_read : HasRead given (read ++ last ∷ [])
  pub near : length has_read.rest ≤ most_buffered
  pub shown : reader.packet ≡ Some last
  pub here : stops read last
  pub wrote : WasWritten (told (read ++ last ∷ [])) out_before out_now

-- the capture has this fault, whatever follows in the source: the packets before it were heard, all
-- that is told of them was written (own)
pub record Refuses (told : List CapturePacket → List ℕ) (stands : List CapturePacket → Type 0)
    (given : List ℕ) (source_now out_before out_now : Side) (fault : CaptureFault) : Type 0 where
  pub has_read : HasRead given (capture_of given).packets
  pub fault_is : (capture_of given).fault ≡ Some fault
  pub all : capture_of (given ++ left_in source_now.bytes) ≡ capture_of given
  pub heard : stands (capture_of given).packets
  pub wrote : WasWritten (told (capture_of given).packets) out_before out_now

-- it ended between two packets: all packets that were read were heard, all that is told of them was
-- written (own)
pub record Stops (told : List CapturePacket → List ℕ) (stands : List CapturePacket → Type 0)
    (given : List ℕ) (out_before out_now : Side) : Type 0 where
  pub read : List CapturePacket
  pub has_read : HasRead given read
  pub heard : stands read
  pub wrote : WasWritten (told read) out_before out_now

-- memory ran out: all that is told of the packets that were read was written, but perhaps for the
-- last one, and no more was taken past its part than the reader keeps (own)
pub record Lacks (told : List CapturePacket → List ℕ) (given : List ℕ)
    (out_before out_now : Side) : Type 0 where
  pub read : List CapturePacket
  pub later : List CapturePacket
  pub one : length later ≤ 1
  pub has_read : HasRead given (read ++ later)
  pub near : length has_read.rest ≤ most_buffered
  pub wrote : WasWritten (told read) out_before out_now

-- a write failed: of what the last packet that was read adds a proper front part was written, and
-- no more was taken past its part than the reader keeps (own)
pub record Breaks (told : List CapturePacket → List ℕ) (given : List ℕ)
    (out_before out_now : Side) : Type 0 where
  pub read : List CapturePacket
  pub last : CapturePacket
  pub text : List ℕ
  pub adds : told (read ++ last ∷ []) ≡ told read ++ text
  pub n : ℕ
  pub has_read : HasRead given (read ++ last ∷ [])
  pub near : length has_read.rest ≤ most_buffered
  pub not_all : n < length text
  pub wrote : WasWritten (told read ++ take n text) out_before out_now
  pub rose : Rose out_before out_now

-- how each end comes (own)
abbrev pub Ends : (told : List CapturePacket → List ℕ) → (stands : List CapturePacket → Type 0) →
    (stops : List CapturePacket → CapturePacket → Type 0) → Reading → List ℕ →
    (source_before source_now out_before out_now : Side) → Result WalkEnd WalkHalt → Type 0
Ends told stands stops reader given source_before source_now out_before out_now (Ok end.End) =
    Finishes told stands given source_now out_before out_now
Ends told stands stops reader given source_before source_now out_before out_now (Ok end.Done) =
    Reaches told stops reader given out_before out_now
Ends told stands stops reader given source_before source_now out_before out_now
    (Err (halt.Broken fault)) =
    Refuses told stands given source_now out_before out_now fault
Ends told stands stops reader given source_before source_now out_before out_now (Err halt.TooLong) =
    (most_read < length given) × Stops told stands given out_before out_now
Ends told stands stops reader given source_before source_now out_before out_now (Err halt.Read) =
    Rose source_before source_now × Stops told stands given out_before out_now
Ends told stands stops reader given source_before source_now out_before out_now (Err halt.Write) =
    Breaks told given out_before out_now
Ends told stands stops reader given source_before source_now out_before out_now (Err halt.Memory) =
    Lacks told given out_before out_now

-- a capture is read and heard, of which the source gave these bytes (own)
pub record Walks (told : List CapturePacket → List ℕ) (stands : List CapturePacket → Type 0)
    (stops : List CapturePacket → CapturePacket → Type 0) (reader : Reading) (given : List ℕ)
    (source_before source_now out_before out_now : Side)
    (result : Result WalkEnd WalkHalt) : Type 0 where
  pub gave : Gave given source_before source_now
  pub bytes : All IsByte given
  pub ends : Ends told stands stops reader given source_before source_now out_before out_now result

-- one step, before which these bytes were given and these packets shown, and in which the source
-- gave some more: it stands between two parts again, or the walk ends (own)
abbrev pub HearsNext : (told : List CapturePacket → List ℕ) →
    (stands : List CapturePacket → Type 0) →
    (stops : List CapturePacket → CapturePacket → Type 0) → Reading → (given : List ℕ) →
    (shown : List CapturePacket) → (next : List ℕ) →
    (source_before source_now out_before out_now : Side) →
    Result (Option WalkEnd) WalkHalt → Type 0
HearsNext told stands stops reader given shown next source_before source_now out_before out_now
    (Ok None) =
    (more : List CapturePacket) ×
    Between told stands reader (given ++ next) (shown ++ more)
    source_before source_now out_before out_now
HearsNext told stands stops reader given shown next source_before source_now out_before out_now
    (Ok (Some how)) =
    Walks told stands stops reader (given ++ next) source_before source_now out_before out_now
    (Ok how)
HearsNext told stands stops reader given shown next source_before source_now out_before out_now
    (Err why) =
    Walks told stands stops reader (given ++ next) source_before source_now out_before out_now
    (Err why)
