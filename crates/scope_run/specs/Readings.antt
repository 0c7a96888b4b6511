-- What is read whole, and how the reading ends (own).
use Rattle.std.specs.Prelude.{◌≡◌, ℕ, ◌+◌, ◌<◌, ◌≤◌, Bool, true, false, List, [], length}
use Rattle.std.specs.Prelude.{Result, Ok, Err, IfOk, IfErr}
use Rattle.ao_base.specs.Outside.{Side, Gave, Rose, IsAtEnd}
use Rattle.book_keys.specs.declared.fault.TableFault.{TableFault}
use Rattle.book_cmd_check.specs.declared.given.GivenIsns.{GivenIsns}
use Rattle.book_lines.specs.declared.text_fault.TextFault.{TextFault}
use Rattle.book_lines.specs.declared.text_fault.TextFault.TheVariants as lines
use Rattle.book_scope_run.specs.declared.halt.Halt.{Halt}
use Rattle.book_scope_run.specs.declared.halt.Halt.TheVariants as halt
use Rattle.book_scope_run.specs.declared.halt.Origin.{Origin}
use Rattle.book_scope_run.specs.declared.halt.Origin.TheVariants.{KeyFile, IsnFile}
use Rattle.book_scope_run.specs.Endings.{most_from}
use Rattle.book_scope_plan.specs.AdminNames.{KeyFile as Sheets}
use Rattle.book_sessions.specs.GivenLines.{given_isns_of}
use Rattle.scope_keys.specs.KeyFiles.{key_file_in, key_file_of}
use Rattle.scope_keys.specs.declared.reading.KeyFile.{KeyFile as FileRead}
use Rattle.scope_run.specs.declared.reading.Files.{Files}
use Rattle.scope_run.specs.declared.reading.Judged.{Judged}
use Rattle.scope_run.specs.Sides.{Unread}

-- how reading from there ends early: a read failed, too many bytes came, or memory ran out (own)
abbrev pub EndsReading : Origin → List ℕ → (before now : Side) → Halt → Type 0
EndsReading from given before now (halt.Read other) = (other ≡ from) × Rose before now
EndsReading from given before now (halt.TooLong other) =
    (other ≡ from) × (most_from from < length given)
EndsReading from given before now halt.Memory = length given ≤ most_from from
EndsReading from given before now other = ⊥

-- these bytes were read from there: all to its end, or as many as show why not (own)
pub record ReadsWhole (from : Origin) (given : List ℕ) (before now : Side)
    (result : Result (List ℕ) Halt) : Type 0 where
  pub gave : Gave given before now
  pub few : length given ≤ most_from from + 1
  pub whole : IfOk result (λ bytes. (bytes ≡ given)
      × (IsAtEnd now × (length given ≤ most_from from)))
  pub ends : IfErr result (EndsReading from given before now)

-- the same where the words ask for it; else nothing is read (own)
abbrev pub ReadsIf : (asked : Bool) → Origin → List ℕ → (before now : Side) →
    Result (List ℕ) Halt → Type 0
ReadsIf true from given before now result = ReadsWhole from given before now result
ReadsIf false from given before now result = Unread given before now × (result ≡ Ok [])

-- behind a key file that was read, the initial sequence numbers were; behind one that wasn't,
-- they are left alone (own)
abbrev pub ReadsIsns : (asked : Bool) → Result (List ℕ) Halt → List ℕ → (before now : Side) →
    Result Files Halt → Type 0
ReadsIsns asked (Ok keys) given before now (Ok files) =
    (files.keys ≡ keys) × ReadsIf asked IsnFile given before now (Ok files.isns)
ReadsIsns asked (Ok keys) given before now (Err why) =
    ReadsIf asked IsnFile given before now (Err why)
ReadsIsns asked (Err why) given before now result = Unread given before now × (result ≡ Err why)

-- the key file was read, and then the initial sequence numbers (own)
pub record ReadsFiles (asked : Bool) (keys isns : List ℕ)
    (keys_before keys_now isns_before isns_now : Side) (result : Result Files Halt)
    : Type 0 where
  pub text : Result (List ℕ) Halt
  pub reads_keys : ReadsWhole KeyFile keys keys_before keys_now text
  pub reads_isns : ReadsIsns asked text isns isns_before isns_now result

-- what a key file gives is answered, or why it is refused, unless memory ran out (own)
abbrev pub KeysGive : {A : Type 0} → Result A TableFault → Result A Halt → Type 0
KeysGive read (Ok tables) = read ≡ Ok tables
KeysGive read (Err (halt.Keys fault)) = read ≡ Err fault
KeysGive read (Err halt.Memory) = Unit {0}
KeysGive read (Err other) = ⊥

-- why given initial sequence numbers are refused, unless memory ran out (own)
abbrev pub IsnsFail : {A : Type 0} → Halt → Result A TextFault → Type 0
IsnsFail halt.TooManyIsns read = read ≡ Err lines.TooManyLines
IsnsFail (halt.IsnLine n kind) read = read ≡ Err (lines.Line n kind)
IsnsFail halt.Memory read = Unit {0}
IsnsFail other read = ⊥

-- a key file that was read, as the book has it (own)
abbrev pub sheets_of : Result FileRead Halt → Result Sheets Halt
sheets_of (Ok file) = Ok (key_file_of file)
sheets_of (Err why) = Err why

-- the key file, and the initial sequence numbers that are given (own)
pub record JudgedFiles : Type 0 where
  pub file : Sheets
  pub isns : List GivenIsns

-- both as the book has them (own)
abbrev pub judged_files : Result Judged Halt → Result JudgedFiles Halt
judged_files (Ok judged) = Ok (record { file = key_file_of judged.file; isns = judged.isns.items })
judged_files (Err why) = Err why

-- behind a key file that is taken, the initial sequence numbers of this text are judged (own)
abbrev pub JudgesIsns : (isns : List ℕ) → Result Sheets Halt → Result JudgedFiles Halt → Type 0
JudgesIsns isns (Ok file) (Ok judged) =
    (judged.file ≡ file) × (given_isns_of isns ≡ Ok judged.isns)
JudgesIsns isns (Ok file) (Err why) = IsnsFail why (given_isns_of isns)
JudgesIsns isns (Err why) result = result ≡ Err why

-- the texts of both files are judged, the key file first (own)
abbrev pub JudgesTexts : (keys isns : List ℕ) → Result JudgedFiles Halt → Type 0
JudgesTexts keys isns result =
    (file : Result Sheets Halt) × KeysGive (key_file_in keys) file × JudgesIsns isns file result

-- the same where they were read; else that ended all (own)
abbrev pub JudgesFiles : Result Files Halt → Result JudgedFiles Halt → Type 0
JudgesFiles (Ok files) result = JudgesTexts files.keys files.isns result
JudgesFiles (Err why) result = result ≡ Err why

-- the key file is read, then the initial sequence numbers, where the words ask for them; and then
-- they are judged, the key file first (own)
abbrev pub ReadsJudged : (asked : Bool) → (keys isns : List ℕ) →
    (keys_before keys_now isns_before isns_now : Side) → Result JudgedFiles Halt → Type 0
ReadsJudged asked keys isns keys_before keys_now isns_before isns_now result =
    (files : Result Files Halt)
    × ReadsFiles asked keys isns keys_before keys_now isns_before isns_now files
    × JudgesFiles files result
