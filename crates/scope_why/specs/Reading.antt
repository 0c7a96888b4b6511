-- What is read of a capture, and the answer on it (own). Its top is `Reads`.
use Rattle.std.specs.Prelude.{◌≡◌, ◌⊎◌, ℕ, ◌<◌, ◌≤◌, Bool, true, false, List, [], ◌∷◌, ◌++◌, length, Some, None, Result, Ok, Err}
use Rattle.std.specs.List.{All}
use Rattle.ao_base.specs.Outside.{Side, Gave, Rose, IsAtEnd, told}
use Rattle.book_base.specs.Hexadecimal.{IsByte}
use Rattle.book_captures.specs.declared.capture_parts.CaptureFault.{CaptureFault}
use Rattle.book_captures.specs.Captures.{CapturePacket, capture_of}
use Rattle.book_scope_plan.specs.AdminNames.{KeyFile}
use Rattle.book_why.specs.Answers.{WhyAsked, has_number, why_passes, why_text}
use Rattle.capture_walk.specs.Reads.{most_buffered, most_read}
use Rattle.scope_why.specs.declared.answer.Answered.{Answered}
use Rattle.capture_walk.specs.declared.walking.WalkHalt.{WalkHalt}
use Rattle.capture_walk.specs.declared.walking.WalkHalt.TheVariants as halt
use Rattle.capture_walk.specs.HasRead.{HasRead}

-- none of these packets has this number
abbrev pub NoneHas : ℕ → List CapturePacket → Type 0
NoneHas n packets = All (λ p. has_number n p ≡ false) packets

-- the capture was read as far as the first packet of the number, and no further: no more was taken
-- past its part than the reader keeps, and this is the answer, whatever follows
pub record Reaches (keys : KeyFile) (asked : WhyAsked) (given text : List ℕ) (passes : Bool)
    : Type 0 where
  pub before : List CapturePacket
  pub last : CapturePacket
  pub has_read : HasRead given (before ++ last ∷ [])
  pub near : length has_read.rest ≤ most_buffered
  pub earlier : NoneHas asked.number before
  pub here : has_number asked.number last ≡ true
  pub text_is : (more : List ℕ) → text ≡ why_text keys asked (capture_of (given ++ more)).packets
  pub passing : (more : List ℕ) →
      passes ≡ why_passes keys.tables asked (capture_of (given ++ more)).packets

-- the whole capture was read, and no packet of it has the number: this is the answer
pub record Misses (keys : KeyFile) (asked : WhyAsked) (given : List ℕ) (source_now : Side)
    (text : List ℕ) (passes : Bool) : Type 0 where
  pub at_end : IsAtEnd source_now
  pub faultless : (capture_of given).fault ≡ None
  pub none : NoneHas asked.number (capture_of given).packets
  pub text_is : text ≡ why_text keys asked (capture_of given).packets
  pub passing : passes ≡ why_passes keys.tables asked (capture_of given).packets

-- this is the answer
abbrev pub IsAnswer : KeyFile → WhyAsked → List ℕ → Side → List ℕ → Bool → Type 0
IsAnswer keys asked given source_now text passes =
    Reaches keys asked given text passes ⊎ Misses keys asked given source_now text passes

-- the capture has this fault, whatever follows in the source, and no packet in front of it has the
-- number
pub record Refuses (asked : WhyAsked) (given : List ℕ) (source_now : Side) (fault : CaptureFault)
    : Type 0 where
  pub has_read : HasRead given (capture_of given).packets
  pub fault_is : (capture_of given).fault ≡ Some fault
  pub all : capture_of (given ++ told source_now.bytes) ≡ capture_of given
  pub none : NoneHas asked.number (capture_of given).packets

-- reading ended between two packets, and none in front has the number
pub record Stops (asked : WhyAsked) (given : List ℕ) : Type 0 where
  pub read : List CapturePacket
  pub has_read : HasRead given read
  pub none : NoneHas asked.number read

-- memory ran out behind these packets, none of which has the number, but perhaps the last one
pub record Lacks (asked : WhyAsked) (given : List ℕ) : Type 0 where
  pub read : List CapturePacket
  pub later : List CapturePacket
  pub one : length later < 2
  pub has_read : HasRead given (read ++ later)
  pub none : NoneHas asked.number read

-- how each end comes
abbrev pub ReadEnds : KeyFile → WhyAsked → List ℕ → (source_before source_now : Side) →
    Result Answered WalkHalt → Type 0
ReadEnds keys asked given source_before source_now (Ok answered) =
    IsAnswer keys asked given source_now answered.text.items answered.passes
ReadEnds keys asked given source_before source_now (Err (halt.Broken fault)) =
    Refuses asked given source_now fault
ReadEnds keys asked given source_before source_now (Err halt.TooLong) =
    (most_read < length given) × Stops asked given
ReadEnds keys asked given source_before source_now (Err halt.Read) =
    Rose source_before source_now × Stops asked given
ReadEnds keys asked given source_before source_now (Err halt.Memory) = Lacks asked given
ReadEnds keys asked given source_before source_now (Err halt.Write) = ⊥

-- a capture is answered on, of which the source gave these bytes
pub record Reads (keys : KeyFile) (asked : WhyAsked) (given : List ℕ)
    (source_before source_now : Side) (result : Result Answered WalkHalt) : Type 0 where
  pub gave : Gave given source_before source_now
  pub bytes : All IsByte given
  pub ends : ReadEnds keys asked given source_before source_now result
