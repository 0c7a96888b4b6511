-- What is read of a capture and written of it (own). Its top is `Writes`.
use Rattle.std.specs.Prelude.{◌≡◌, ◌⊎◌, ℕ, ◌<◌, Bool, false, List, [], ◌++◌, length, Option, Some, None, Result, Ok, Err}
use Rattle.std.specs.List.{All}
use Rattle.toml.specs.Data.{Members}
use Rattle.ao_base.specs.Outside.{Side, Gave, WasWritten, Rose, IsAtEnd, told}
use Rattle.book_captures.specs.declared.capture_parts.CaptureFault.{CaptureFault}
use Rattle.book_captures.specs.Captures.{CapturePacket, capture_of}
use Rattle.book_cmd_check.specs.declared.given.GivenIsns.{GivenIsns}
use Rattle.book_scope_plan.specs.AdminNames.{KeyFile}
use Rattle.book_sessions.specs.Laps.{Judging}
use Rattle.book_sessions.specs.declared.retiring.Retiring.{Retiring}
use Rattle.book_sessions.specs.NamedKeys.{retire_lines, retiring_of}
use Rattle.book_sessions.specs.Retiring.{evidence_of}
use Rattle.book_sessions.specs.Sessions.{SessionTable, sessions_of}
use Rattle.book_sessions.specs.TableTexts.{has_amiss}
use Rattle.page_sessions_json.specs.declared.form.TableForm.TheVariants.{Lines}
use Rattle.page_sessions_json.specs.declared.form.TableRequest.{TableRequest}
use Rattle.page_sessions_json.specs.Forms.{written_as}
use Rattle.page_sessions_json.specs.TableSeries.{Series, early_text, series_keys, series_text}
use Rattle.book_base.specs.Hexadecimal.{IsByte}
use Rattle.capture_walk.specs.Reads.{most_read}
use Rattle.scope_sessions.specs.declared.count.Counted.{Counted}
use Rattle.capture_walk.specs.declared.walking.WalkHalt.{WalkHalt}
use Rattle.capture_walk.specs.declared.walking.WalkHalt.TheVariants as halt
use Rattle.scope_keys.specs.KeyFiles.{keys_at}
use Rattle.scope_sessions.specs.Reading.{BreaksEarly, IsWhole, Lacks, Stops}
use Rattle.scope_sessions.specs.Texts.{BreaksText}
use Rattle.capture_walk.specs.HasRead.{HasRead}

-- what is written of a table at the end, and what is answered of it, by a key file (own)
pub record Report (A : Type 0) : Type 0 where
  pub text : KeyFile → SessionTable → List ℕ
  pub answer : KeyFile → SessionTable → A

-- the table that is asked for, and whether anything in it is amiss (own)
abbrev pub table_report : TableRequest → Report Bool
table_report request = record { text = written_as request; answer = λ keys t. has_amiss keys.tables t }

-- the key lines of the rows that a word names, and whether all of them may go (own)
abbrev pub retire_report : (word : List ℕ) → Report Retiring
retire_report word = record {
  text = λ keys t. retire_lines word keys (evidence_of t);
  answer = λ keys t. retiring_of word keys (evidence_of t);
}

-- no table is asked for in front of a packet (own)
abbrev pub at_end : TableRequest
at_end = record { form = Lines; all = false; every = None }

-- the table of the packets of a capture (own)
abbrev pub table_in : Judging → List GivenIsns → List ℕ → SessionTable
table_in j isns given = sessions_of j isns (capture_of given).packets

-- the whole capture was read, and what is reported of it written (own)
pub record Finishes {A : Type 0} (r : Report A) (s : Series) (given : List ℕ) (source_now out_before out_now : Side) (answer : A) : Type 0 where
  pub is_at_end : IsAtEnd source_now
  pub faultless : (capture_of given).fault ≡ None
  pub answer_is : answer ≡ r.answer (series_keys s) (table_in s.judging s.given given)
  pub wrote : WasWritten (series_text r.text s (capture_of given).packets) out_before out_now

-- the capture has this fault, whatever follows in the source: what is reported of the packets before it was written (own)
pub record Refuses {A : Type 0} (r : Report A) (s : Series) (given : List ℕ) (source_now out_before out_now : Side) (fault : CaptureFault) : Type 0 where
  pub has_read : HasRead given (capture_of given).packets
  pub fault_is : (capture_of given).fault ≡ Some fault
  pub all : capture_of (given ++ told source_now.bytes) ≡ capture_of given
  pub wrote : WasWritten (series_text r.text s (capture_of given).packets) out_before out_now

-- a write failed, behind the capture's end or its fault (own)
pub record BreaksLast {A : Type 0} (r : Report A) (s : Series) (given : List ℕ) (source_now out_before out_now : Side) : Type 0 where
  pub whole : IsWhole given source_now (capture_of given).fault
  pub breaks : BreaksText (early_text s (capture_of given).packets) (series_text r.text s (capture_of given).packets) out_before out_now

-- how each end comes, where this is reported (own)
abbrev pub Ends : {A : Type 0} → Report A → Series → List ℕ → (source_before source_now out_before out_now : Side) → Result A WalkHalt → Type 0
Ends r s given source_before source_now out_before out_now (Ok answer) = Finishes r s given source_now out_before out_now answer
Ends r s given source_before source_now out_before out_now (Err (halt.Broken fault)) = Refuses r s given source_now out_before out_now fault
Ends r s given source_before source_now out_before out_now (Err halt.TooLong) = (most_read < length given) × Stops s given out_before out_now
Ends r s given source_before source_now out_before out_now (Err halt.Read) = Rose source_before source_now × Stops s given out_before out_now
Ends r s given source_before source_now out_before out_now (Err halt.Write) = BreaksEarly s given out_before out_now ⊎ BreaksLast r s given source_now out_before out_now
Ends r s given source_before source_now out_before out_now (Err halt.Memory) = Lacks s given out_before out_now

-- what is reported of a capture is written, and the tables that are asked for in front of packets, of which the source gave these bytes (own)
pub record Writes {A : Type 0} (r : Report A) (s : Series) (given : List ℕ) (source_before source_now out_before out_now : Side) (result : Result A WalkHalt) : Type 0 where
  pub gave : Gave given source_before source_now
  pub bytes : All IsByte given
  pub ends : Ends r s given source_before source_now out_before out_now result

-- what is reported of what was counted is written
abbrev pub WritesCounted : {A : Type 0} → Report A → Members → Counted → (out_before out_now : Side) → Result A WalkHalt → Type 0
WritesCounted r document counted out_before out_now (Ok answer) = (counted.fault ≡ None) × (answer ≡ r.answer (keys_at document counted.listener.judging.tables) counted.index)
    × WasWritten (r.text (keys_at document counted.listener.judging.tables) counted.index) out_before out_now
WritesCounted r document counted out_before out_now (Err (halt.Broken fault)) = (counted.fault ≡ Some fault)
    × WasWritten (r.text (keys_at document counted.listener.judging.tables) counted.index) out_before out_now
WritesCounted r document counted out_before out_now (Err halt.Write) =
    BreaksText [] (r.text (keys_at document counted.listener.judging.tables) counted.index) out_before out_now
WritesCounted r document counted out_before out_now (Err halt.Memory) = WasWritten [] out_before out_now
WritesCounted r document counted out_before out_now (Err other) = ⊥
