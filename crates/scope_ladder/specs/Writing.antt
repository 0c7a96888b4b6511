-- What is read of a capture and written of it (own). Its top is `Writes`.
use Rattle.std.specs.Prelude.{◌≡◌, ◌⊎◌, ℕ, ◌<◌, ◌≤◌, true, List, [], ◌++◌, length, take, is_some}
use Rattle.std.specs.Prelude.{Some, None, Result, Ok, Err}
use Rattle.std.specs.List.{All}
use Rattle.ao_base.specs.Outside.{Side, Gave, WasWritten, Rose, IsAtEnd, told}
use Rattle.book_base.specs.Hexadecimal.{IsByte}
use Rattle.book_captures.specs.declared.capture_parts.CaptureFault.{CaptureFault}
use Rattle.book_captures.specs.Captures.{CapturePacket, capture_of}
use Rattle.book_draw.specs.declared.session_rung.SessionRung.{SessionRung}
use Rattle.book_draw.specs.SessionRungs.{sessions_drawn}
use Rattle.capture_walk.specs.Reads.{most_read}
use Rattle.scope_ladder.specs.declared.draw.LadderHalt.{LadderHalt}
use Rattle.scope_ladder.specs.declared.draw.LadderHalt.TheVariants as halt
use Rattle.scope_ladder.specs.declared.drawer.Drawer.{Drawer}
use Rattle.scope_ladder.specs.Drawing.{Request, drawn_text, flow_text, last_text, rungs_for, session_in}
use Rattle.scope_ladder.specs.Searches.{Seeks, Tells}
use Rattle.capture_walk.specs.HasRead.{HasRead}
use Rattle.capture_walk.specs.Hearing.{TellsPart}
use Rattle.capture_walk.specs.declared.walking.WalkEnd.{WalkEnd}
use Rattle.capture_walk.specs.declared.walking.WalkHalt.{WalkHalt}
use Rattle.capture_walk.specs.declared.walking.WalkHalt.TheVariants as walk_halt

-- the whole capture was read, and its session drawn (own)
pub record Finishes (q : Request) (given : List ℕ) (source_now out_before out_now : Side) : Type 0 where
  pub at_end : IsAtEnd source_now
  pub faultless : (capture_of given).fault ≡ None
  pub has : is_some (session_in q (capture_of given).packets) ≡ true
  pub wrote : WasWritten (drawn_text q (capture_of given).packets) out_before out_now

-- the whole capture was read, and none of its sessions, which are so many, has the number (own)
pub record Misses (q : Request) (given : List ℕ) (source_now out_before out_now : Side) (many : ℕ) : Type 0 where
  pub at_end : IsAtEnd source_now
  pub faultless : (capture_of given).fault ≡ None
  pub none : session_in q (capture_of given).packets ≡ None
  pub all : many ≡ length (sessions_drawn (rungs_for q (capture_of given).packets))
  pub wrote : WasWritten [] out_before out_now

-- the capture has this fault, whatever follows in the source: the session of the packets before it
-- was drawn (own)
pub record Refuses (q : Request) (given : List ℕ) (source_now out_before out_now : Side)
    (fault : CaptureFault) : Type 0 where
  pub has_read : HasRead given (capture_of given).packets
  pub fault_is : (capture_of given).fault ≡ Some fault
  pub all : capture_of (given ++ told source_now.bytes) ≡ capture_of given
  pub wrote : WasWritten (drawn_text q (capture_of given).packets) out_before out_now

-- it ended between two packets: the session of all packets before was drawn (own)
pub record Stops (q : Request) (given : List ℕ) (out_before out_now : Side) : Type 0 where
  pub read : List CapturePacket
  pub has_read : HasRead given read
  pub wrote : WasWritten (drawn_text q read) out_before out_now

-- memory ran out: what is drawn before all is read was written of all packets that were read, but for
-- the last one; that of a picture is nothing (own)
pub record Lacks (q : Request) (given : List ℕ) (out_before out_now : Side) : Type 0 where
  pub read : List CapturePacket
  pub later : List CapturePacket
  pub one : length later ≤ 1
  pub has_read : HasRead given (read ++ later)
  pub wrote : WasWritten (flow_text q read) out_before out_now

-- a write failed: of what is drawn of all packets that were read a front part was written, with all
-- that is drawn before all is read of these but the last one (own)
pub record Breaks (q : Request) (given : List ℕ) (out_before out_now : Side) : Type 0 where
  pub read : List CapturePacket
  pub later : List CapturePacket
  pub one : length later ≤ 1
  pub n : ℕ
  pub has_read : HasRead given (read ++ later)
  pub at_least : length (flow_text q read) ≤ n
  pub not_all : n < length (drawn_text q (read ++ later))
  pub wrote : WasWritten (take n (drawn_text q (read ++ later))) out_before out_now
  pub rose : Rose out_before out_now

-- how each end comes (own)
abbrev pub Ends : Request → List ℕ → (source_before source_now out_before out_now : Side) →
    Result (Unit {0}) LadderHalt → Type 0
Ends q given source_before source_now out_before out_now (Ok done) =
    Finishes q given source_now out_before out_now
Ends q given source_before source_now out_before out_now (Err (halt.NoSession many)) =
    Misses q given source_now out_before out_now many
Ends q given source_before source_now out_before out_now (Err (halt.Walk (walk_halt.Broken fault))) =
    Refuses q given source_now out_before out_now fault
Ends q given source_before source_now out_before out_now (Err (halt.Walk walk_halt.TooLong)) =
    (most_read < length given) × Stops q given out_before out_now
Ends q given source_before source_now out_before out_now (Err (halt.Walk walk_halt.Read)) =
    Rose source_before source_now × Stops q given out_before out_now
Ends q given source_before source_now out_before out_now (Err (halt.Walk walk_halt.Write)) =
    Breaks q given out_before out_now
Ends q given source_before source_now out_before out_now (Err (halt.Walk walk_halt.Memory)) =
    Lacks q given out_before out_now

-- a session of a capture is drawn, of which the source gave these bytes (own)
pub record Writes (q : Request) (given : List ℕ)
    (source_before source_now out_before out_now : Side)
    (result : Result (Unit {0}) LadderHalt) : Type 0 where
  pub gave : Gave given source_before source_now
  pub bytes : All IsByte given
  pub ends : Ends q given source_before source_now out_before out_now result

-- what is drawn when all is read was written, and this is told then; or memory ran out, or a write failed
abbrev pub WritesLast : (text : List ℕ) → Side → Side → (after result : Result (Unit {0}) LadderHalt) → Type 0
WritesLast text out_before out_now after result =
    (WasWritten text out_before out_now × (result ≡ after))
    ⊎ ((WasWritten [] out_before out_now × (result ≡ Err (halt.Walk walk_halt.Memory)))
    ⊎ (TellsPart text out_before out_now × (result ≡ Err (halt.Walk walk_halt.Write))))

-- a drawing ends so where the walk over the capture ended so: what is drawn when all is read was
-- written, or nothing more, where a write failed before or memory ran out
abbrev pub EndsBy : Drawer → (out_before out_now : Side) → Result WalkEnd WalkHalt →
    Result (Unit {0}) LadderHalt → Type 0
EndsBy d out_before out_now (Ok how) result = (after : Result (Unit {0}) LadderHalt) ×
    ((rs : List SessionRung) → Seeks d.search rs → Tells d.search.number rs after) ×
    WritesLast (last_text d) out_before out_now after result
EndsBy d out_before out_now (Err (walk_halt.Broken fault)) result =
    WritesLast (last_text d) out_before out_now (Err (halt.Walk (walk_halt.Broken fault))) result
EndsBy d out_before out_now (Err walk_halt.TooLong) result =
    WritesLast (last_text d) out_before out_now (Err (halt.Walk walk_halt.TooLong)) result
EndsBy d out_before out_now (Err walk_halt.Read) result =
    WritesLast (last_text d) out_before out_now (Err (halt.Walk walk_halt.Read)) result
EndsBy d out_before out_now (Err walk_halt.Write) result =
    (out_now ≡ out_before) × (result ≡ Err (halt.Walk walk_halt.Write))
EndsBy d out_before out_now (Err walk_halt.Memory) result =
    (out_now ≡ out_before) × (result ≡ Err (halt.Walk walk_halt.Memory))
