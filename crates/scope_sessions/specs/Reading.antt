-- What is read of a capture and counted of it (own). Its top is `Counts`.
use Rattle.std.specs.Prelude.{◌≡◌, ℕ, ◌<◌, ◌≤◌, List, [], ◌∷◌, ◌++◌, length, Option, Some, None, Result, Ok, Err}
use Rattle.std.specs.List.{All}
use Rattle.toml.specs.Data.{Members}
use Rattle.ao_base.specs.Outside.{Side, Gave, WasWritten, Rose, IsAtEnd, told}
use Rattle.book_captures.specs.declared.capture_parts.CaptureFault.{CaptureFault}
use Rattle.book_captures.specs.Captures.{CapturePacket, capture_of}
use Rattle.book_cmd_check.specs.declared.given.GivenIsns.{GivenIsns}
use Rattle.book_keys.specs.Rows.{Table}
use Rattle.book_sessions.specs.Laps.{Judging}
use Rattle.book_sessions.specs.Sessions.{SessionTable, sessions_of}
use Rattle.page_sessions_json.specs.declared.form.TableRequest.{TableRequest}
use Rattle.page_sessions_json.specs.TableSeries.{Series, early_text}
use Rattle.book_base.specs.Hexadecimal.{IsByte}
use Rattle.capture_listener.specs.Listeners.{Hearing}
use Rattle.capture_walk.specs.Reads.{most_read}
use Rattle.scope_sessions.specs.declared.count.Counted.{Counted}
use Rattle.scope_sessions.specs.Texts.{BreaksText}
use Rattle.capture_walk.specs.HasRead.{HasRead}
use Rattle.capture_walk.specs.declared.walking.WalkEnd.{WalkEnd}
use Rattle.capture_walk.specs.declared.walking.WalkHalt.{WalkHalt}
use Rattle.capture_walk.specs.declared.walking.WalkHalt.TheVariants as halt

-- the source is at its end, where the capture has no fault; and where it has one, then whatever
-- follows in the source
abbrev pub IsWhole : List ℕ → Side → Option CaptureFault → Type 0
IsWhole given source_now None = IsAtEnd source_now
IsWhole given source_now (Some fault) = capture_of (given ++ told source_now.bytes) ≡ capture_of given

-- the tables that are asked for of a capture, by the key file that is this document
abbrev pub series_behind : Members → Judging → List GivenIsns → TableRequest → Series
series_behind document judging given request =
    record { document = document; judging = judging; given = given; request = request }

-- the same, of tables and laps
abbrev pub series_of : Members → List Table → (laps : ℕ) → List GivenIsns → TableRequest → Series
series_of document tables laps = series_behind document (record { tables = tables; laps = laps })

-- the fault that a capture has behind its packets, if it has one, where its walk ended so
abbrev pub fault_behind : Result WalkEnd WalkHalt → Result (Option CaptureFault) WalkHalt
fault_behind (Ok how) = Ok None
fault_behind (Err (halt.Broken fault)) = Ok (Some fault)
fault_behind (Err halt.TooLong) = Err halt.TooLong
fault_behind (Err halt.Read) = Err halt.Read
fault_behind (Err halt.Write) = Err halt.Write
fault_behind (Err halt.Memory) = Err halt.Memory

-- what was counted, where that ended so
abbrev pub counted_with : Hearing → SessionTable → Result (Option CaptureFault) WalkHalt →
    Result Counted WalkHalt
counted_with listener index (Ok fault) =
    Ok (record { listener = listener; index = index; fault = fault })
counted_with listener index (Err why) = Err why

-- all packets of the capture were counted
pub record HasCounted (s : Series) (given : List ℕ) (source_now : Side) (counted : Counted) : Type 0 where
  pub tables_are : counted.listener.judging.tables ≡ s.judging.tables
  pub table_is : counted.index ≡ sessions_of s.judging s.given (capture_of given).packets
  pub fault_is : counted.fault ≡ (capture_of given).fault
  pub whole : IsWhole given source_now counted.fault
  pub has_read : HasRead given (capture_of given).packets

-- these packets were read, and the tables written that were due in front of them
pub record Stops (s : Series) (given : List ℕ) (out_before out_now : Side) : Type 0 where
  pub read : List CapturePacket
  pub has_read : HasRead given read
  pub wrote : WasWritten (early_text s read) out_before out_now

-- memory ran out: the tables were written that were due in front of the packets that were read, but perhaps for
-- the last one
pub record Lacks (s : Series) (given : List ℕ) (out_before out_now : Side) : Type 0 where
  pub read : List CapturePacket
  pub later : List CapturePacket
  pub one : length later ≤ 1
  pub has_read : HasRead given (read ++ later)
  pub wrote : WasWritten (early_text s read) out_before out_now

-- a write failed in front of the last packet that was read
pub record BreaksEarly (s : Series) (given : List ℕ) (out_before out_now : Side) : Type 0 where
  pub read : List CapturePacket
  pub last : CapturePacket
  pub has_read : HasRead given (read ++ last ∷ [])
  pub breaks : BreaksText (early_text s read) (early_text s (read ++ last ∷ [])) out_before out_now

-- how each end comes
abbrev pub CountEnds : Series → List ℕ → (source_before source_now out_before out_now : Side) → Result Counted WalkHalt → Type 0
CountEnds s given source_before source_now out_before out_now (Ok counted) =
    HasCounted s given source_now counted × WasWritten (early_text s (capture_of given).packets) out_before out_now
CountEnds s given source_before source_now out_before out_now (Err (halt.Broken fault)) = ⊥
CountEnds s given source_before source_now out_before out_now (Err halt.TooLong) = (most_read < length given) × Stops s given out_before out_now
CountEnds s given source_before source_now out_before out_now (Err halt.Read) = Rose source_before source_now × Stops s given out_before out_now
CountEnds s given source_before source_now out_before out_now (Err halt.Write) = BreaksEarly s given out_before out_now
CountEnds s given source_before source_now out_before out_now (Err halt.Memory) = Lacks s given out_before out_now

-- the packets of a capture are counted, of which the source gave these bytes, and the tables written that are due in
-- front of them
pub record Counts (s : Series) (given : List ℕ) (source_before source_now out_before out_now : Side) (result : Result Counted WalkHalt) : Type 0 where
  pub gave : Gave given source_before source_now
  pub bytes : All IsByte given
  pub ends : CountEnds s given source_before source_now out_before out_now result
