-- What a check of stored segments reads and writes, line by line (own). Its top is `Checks`.
use Rattle.std.specs.Prelude.{◌≡◌, ◌⊎◌, ℕ, ◌+◌, ◌<◌, ◌≤◌, Bool, List, [], ◌∷◌, ◌++◌, length, take}
use Rattle.std.specs.Prelude.{Some, None, Result, Ok, Err}
use Rattle.book_lines.specs.declared.line_kind.LineKind.{LineKind}
use Rattle.book_base.specs.Lines.{lines_of}
use Rattle.ao_base.specs.Outside.{Side, Gave, WasWritten, Rose, IsAtEnd}
use Rattle.book_keys.specs.Rows.{Table}
use Rattle.book_cmd_check.specs.Captures.{Stored, capture_run, has_refusal}
use Rattle.book_cmd_check.specs.StoredLines.{stored_from, stored_input, stored_line}
use Rattle.book_pcap.specs.Packets.{most_capture}
use Rattle.cmd_check.specs.Judges.{HasHeard, Judging}
use Rattle.cmd_check.specs.declared.halt.Halt.{Halt}
use Rattle.cmd_check.specs.declared.halt.Halt.TheVariants.{Line, Head, Record, TooLong, Read, Write}
use Rattle.cmd_check.specs.declared.halt.Halt.TheVariants.{Memory}

-- the most bytes that are taken behind the last line that was looked at: those of the longest
-- line and 65,536 (own)
abbrev pub most_ahead : ℕ
most_ahead = 196736

-- the segments of these lines, of which the first has the number 1 (own)
abbrev pub segments_of : List (List ℕ) → List Stored
segments_of lines = (stored_from 1 lines).stored

-- the lines that are written of the segments of these lines (own)
abbrev pub written_of : List Table → List (List ℕ) → List ℕ
written_of tables lines = capture_run tables (segments_of lines)

-- these lines were read, none of them faulty: they are those of the bytes in front, and behind
-- them come those of the rest, whatever follows, or there is no rest at the source's end (own)
pub record HasRead (given : List ℕ) (read : List (List ℕ)) (rest : List ℕ) (source_now : Side)
    : Type 0 where
  pub front : List ℕ
  pub split : given ≡ front ++ rest
  pub lines : lines_of front ≡ read
  pub follows : ((rest ≡ []) × IsAtEnd source_now) ⊎ ((more : List ℕ)
      → lines_of (given ++ more) ≡ read ++ lines_of (rest ++ more))
  pub faultless : (stored_from 1 read).fault ≡ None

-- all lines were read and the lines of all segments written (own)
pub record Finishes (tables : List Table) (given : List ℕ) (source_now out_before out_now : Side)
    (amiss : Bool) : Type 0 where
  pub at_end : IsAtEnd source_now
  pub within : length given ≤ most_capture
  pub faultless : (stored_input given).fault ≡ None
  pub amiss_is : amiss ≡ has_refusal tables (stored_input given).stored
  pub wrote : WasWritten (capture_run tables (stored_input given).stored) out_before out_now

-- a line is faulty: the lines of the segments before it were written, and nothing was taken
-- behind it but what the reader keeps (own)
pub record Refuses (tables : List Table) (given : List ℕ) (source_now out_before out_now : Side)
    (n : ℕ) (kind : LineKind) : Type 0 where
  pub front : List ℕ
  pub rest : List ℕ
  pub split : given ≡ front ++ rest
  pub lines : length (lines_of front) ≤ n
  pub few : length rest ≤ most_ahead
  pub fault : (stored_input given).fault ≡ Some (record { number = n; kind = kind })
  pub wrote : WasWritten (capture_run tables (stored_input given).stored) out_before out_now
  pub whatever : IsAtEnd source_now ⊎ ((more : List ℕ)
      → stored_input (given ++ more) ≡ stored_input given)

-- it ended between two lines: the lines of the segments of all lines before were written, and
-- nothing was taken behind those but what the reader keeps (own)
pub record Stops (tables : List Table) (given : List ℕ) (source_now out_before out_now : Side)
    : Type 0 where
  pub read : List (List ℕ)
  pub rest : List ℕ
  pub has_read : HasRead given read rest source_now
  pub few : length rest ≤ most_ahead
  pub wrote : WasWritten (written_of tables read) out_before out_now

-- more was given than the most bytes of an input: it ended between two lines within those bytes
-- (own)
pub record Exceeds (tables : List Table) (given : List ℕ) (source_now out_before out_now : Side)
    : Type 0 where
  pub more : most_capture < length given
  pub stops : Stops tables given source_now out_before out_now
  pub within : length stops.has_read.front ≤ most_capture

-- a write failed: of the segment of the last line that was read a front part of its line was
-- written, and nothing was taken behind that line but what the reader keeps (own)
pub record Breaks (tables : List Table) (given : List ℕ) (source_now out_before out_now : Side)
    : Type 0 where
  pub read : List (List ℕ)
  pub last : List ℕ
  pub rest : List ℕ
  pub segment : Stored
  pub n : ℕ
  pub has_read : HasRead given (read ++ last ∷ []) rest source_now
  pub few : length rest ≤ most_ahead
  pub of_last : segments_of (read ++ last ∷ []) ≡ segments_of read ++ segment ∷ []
  pub all_before : length (written_of tables read) ≤ n
  pub not_all : n < length (written_of tables (read ++ last ∷ []))
  pub wrote : WasWritten (take n (written_of tables (read ++ last ∷ []))) out_before out_now
  pub rose : Rose out_before out_now

-- how each end comes (own)
abbrev pub Ends : List Table → List ℕ → (source_before source_now out_before out_now : Side) →
    Result Bool Halt → Type 0
Ends tables given source_before source_now out_before out_now (Ok amiss) =
    Finishes tables given source_now out_before out_now amiss
Ends tables given source_before source_now out_before out_now (Err (Line n kind)) =
    Refuses tables given source_now out_before out_now n kind
Ends tables given source_before source_now out_before out_now (Err (Head fault)) = ⊥
Ends tables given source_before source_now out_before out_now (Err (Record n)) = ⊥
Ends tables given source_before source_now out_before out_now (Err TooLong) =
    Exceeds tables given source_now out_before out_now
Ends tables given source_before source_now out_before out_now (Err Read) =
    Rose source_before source_now × Stops tables given source_now out_before out_now
Ends tables given source_before source_now out_before out_now (Err Write) =
    Breaks tables given source_now out_before out_now
Ends tables given source_before source_now out_before out_now (Err Memory) =
    Stops tables given source_now out_before out_now

-- a check of lines, in which the source gave these bytes (own)
pub record Checks (tables : List Table) (given : List ℕ)
    (source_before source_now out_before out_now : Side) (result : Result Bool Halt) : Type 0 where
  pub gave : Gave given source_before source_now
  pub few : length given ≤ most_capture + most_ahead
  pub ends : Ends tables given source_before source_now out_before out_now result

-- the line of one more segment is written, or a part of it (own)
pub record BreaksLine (tables : List Table) (lines : List (List ℕ)) (line : List ℕ)
    (out_before out_now : Side) : Type 0 where
  pub segment : Stored
  pub text : List ℕ
  pub n : ℕ
  pub faultless : (stored_from 1 (lines ++ line ∷ [])).fault ≡ None
  pub of_line : segments_of (lines ++ line ∷ []) ≡ segments_of lines ++ segment ∷ []
  pub whole : written_of tables (lines ++ line ∷ []) ≡ written_of tables lines ++ text
  pub less : n < length text
  pub wrote : WasWritten (take n text) out_before out_now
  pub rose : Rose out_before out_now

-- one more line is judged (own)
pub record JudgedLine (tables : List Table) (now : Judging) (lines : List (List ℕ)) (line : List ℕ)
    (out_before out_now : Side) : Type 0 where
  pub text : List ℕ
  pub tables_same : now.checking.tables ≡ tables
  pub faultless : (stored_from 1 (lines ++ line ∷ [])).fault ≡ None
  pub heard : HasHeard now (segments_of (lines ++ line ∷ []))
  pub whole : written_of tables (lines ++ line ∷ []) ≡ written_of tables lines ++ text
  pub wrote : WasWritten text out_before out_now

-- what became of one more line behind these: nothing that was said of it waits (own)
abbrev pub JudgesLine : List Table → Judging → List (List ℕ) → (line gathered : List ℕ) → Side →
    Side → Result (Unit {0}) Halt → Type 0
JudgesLine tables now lines line gathered out_before out_now (Ok done) =
    (gathered ≡ []) × JudgedLine tables now lines line out_before out_now
JudgesLine tables now lines line gathered out_before out_now (Err (Line n kind)) =
    (n ≡ length lines + 1) × (stored_line n line ≡ Err kind) × WasWritten [] out_before out_now
JudgesLine tables now lines line gathered out_before out_now (Err (Head fault)) = ⊥
JudgesLine tables now lines line gathered out_before out_now (Err (Record n)) = ⊥
JudgesLine tables now lines line gathered out_before out_now (Err TooLong) = ⊥
JudgesLine tables now lines line gathered out_before out_now (Err Read) = ⊥
JudgesLine tables now lines line gathered out_before out_now (Err Write) =
    BreaksLine tables lines line out_before out_now
JudgesLine tables now lines line gathered out_before out_now (Err Memory) =
    WasWritten [] out_before out_now
