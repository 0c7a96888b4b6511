-- What is read of a capture and written of it (own). Its top is `Writes`.
use Rattle.std.specs.Prelude.{◌≡◌, ℕ, ◌<◌, Bool, List, [], length, Result, Ok, Err}
use Rattle.std.specs.List.{All}
use Rattle.ao_base.specs.Outside.{Side, Gave, WasWritten, Rose}
use Rattle.book_base.specs.Hexadecimal.{IsByte}
use Rattle.book_cmd_check.specs.declared.given.GivenIsns.{GivenIsns}
use Rattle.book_scope_plan.specs.AdminNames.{KeyFile}
use Rattle.book_why.specs.Answers.{WhyAsked}
use Rattle.capture_walk.specs.Reads.{most_read}
use Rattle.scope_sessions.specs.Texts.{BreaksText}
use Rattle.scope_why.specs.declared.answer.Answered.{Answered}
use Rattle.capture_walk.specs.declared.walking.WalkHalt.{WalkHalt}
use Rattle.capture_walk.specs.declared.walking.WalkHalt.TheVariants as halt
use Rattle.scope_why.specs.declared.write.WhyRequest.{WhyRequest}
use Rattle.scope_why.specs.Reading.{IsAnswer, Lacks, Refuses, Stops}

-- the question that a request is, behind given initial sequence numbers (own)
abbrev pub question_of : WhyRequest → List GivenIsns → WhyAsked
question_of request given =
    record { given = given; number = request.number; with_key = request.with_key }

-- the answer was written (own)
pub record Finishes (keys : KeyFile) (asked : WhyAsked) (given : List ℕ)
    (source_now out_before out_now : Side) (passes : Bool) : Type 0 where
  pub text : List ℕ
  pub is : IsAnswer keys asked given source_now text passes
  pub wrote : WasWritten text out_before out_now

-- a write failed: a front part of the answer was written (own)
pub record Breaks (keys : KeyFile) (asked : WhyAsked) (given : List ℕ)
    (source_now out_before out_now : Side) : Type 0 where
  pub text : List ℕ
  pub passes : Bool
  pub is : IsAnswer keys asked given source_now text passes
  pub breaks : BreaksText [] text out_before out_now

-- how each end comes by a key file and given initial sequence numbers (own)
abbrev pub Ends : KeyFile → WhyAsked → List ℕ →
    (source_before source_now out_before out_now : Side) → Result Bool WalkHalt → Type 0
Ends keys asked given source_before source_now out_before out_now (Ok passes) =
    Finishes keys asked given source_now out_before out_now passes
Ends keys asked given source_before source_now out_before out_now (Err halt.Write) =
    Breaks keys asked given source_now out_before out_now
Ends keys asked given source_before source_now out_before out_now (Err (halt.Broken fault)) =
    Refuses asked given source_now fault × WasWritten [] out_before out_now
Ends keys asked given source_before source_now out_before out_now (Err halt.TooLong) =
    (most_read < length given) × (Stops asked given × WasWritten [] out_before out_now)
Ends keys asked given source_before source_now out_before out_now (Err halt.Read) =
    Rose source_before source_now × (Stops asked given × WasWritten [] out_before out_now)
Ends keys asked given source_before source_now out_before out_now (Err halt.Memory) =
    Lacks asked given × WasWritten [] out_before out_now

-- the answer on a packet of a capture is written, of which the source gave these bytes (own)
pub record Writes (keys : KeyFile) (asked : WhyAsked) (given : List ℕ)
    (source_before source_now out_before out_now : Side) (result : Result Bool WalkHalt)
    : Type 0 where
  pub gave : Gave given source_before source_now
  pub bytes : All IsByte given
  pub ends : Ends keys asked given source_before source_now out_before out_now result

-- an answer is written
abbrev pub WritesAnswer : Answered → (out_before out_now : Side) → Result Bool WalkHalt → Type 0
WritesAnswer answered out_before out_now (Ok passes) =
    (passes ≡ answered.passes) × WasWritten answered.text.items out_before out_now
WritesAnswer answered out_before out_now (Err halt.Write) =
    BreaksText [] answered.text.items out_before out_now
WritesAnswer answered out_before out_now (Err other) = ⊥
