-- What the top call reads, answers and writes, for every command. Its top is `Obeys` (own).
use Rattle.std.specs.Prelude.{◌≡◌, ◌≢◌, ◌⊎◌, ℕ, ◌+◌, ◌<◌, ◌≤◌, ◌==◌, if◌then◌else◌, Bool, true}
use Rattle.std.specs.Prelude.{false, List, [], length, take, Option, Some, None, Result, Ok, Err}
use Rattle.ao_base.specs.Outside.{Side, Gave, WasWritten, Rose, IsAtEnd}
use Rattle.cmd_check.specs.CheckedLines.{Checks as JudgesLines}
use Rattle.cmd_check.specs.CheckedLines.{most_ahead as most_ahead_of_lines}
use Rattle.cmd_check.specs.CheckedPackets.{Checks as JudgesPackets}
use Rattle.cmd_check.specs.CheckedPackets.{most_ahead as most_ahead_of_packets}
use Rattle.cmd_check.specs.declared.halt.Halt.{Halt}
use Rattle.cmd_check.specs.declared.halt.Halt.TheVariants as halt
use Rattle.book_keys.specs.Nodes.{most_keys, tables_of}
use Rattle.book_keys.specs.Rows.{Table}
use Rattle.book_lines.specs.declared.text_fault.TextFault.TheVariants.{Line}
use Rattle.book_lines.specs.Faults.{input_fault_text}
use Rattle.book_answer.specs.declared.command.Command.{Command}
use Rattle.book_answer.specs.declared.command.Command.TheVariants as commands
use Rattle.book_answer.specs.Answers.{Answer, answer_of as answer, most_input}
use Rattle.book_answer.specs.Answers.{pcap_fault_line, too_long, read_fault, write_fault, memory}
use Rattle.book_answer.specs.Commands.{command_of, reads_keys, reads_input}
use Rattle.book_pcap.specs.Packets.{BadHead, BadRecord}

-- the key file, standard input, standard output and standard error (own)
pub record Sides : Type 0 where
  pub keys : Side
  pub input : Side
  pub out : Side
  pub err : Side

-- a command asks for the key file, where the words name one (own)
abbrev pub asks_keys : Option Command → Bool
asks_keys None = false
asks_keys (Some c) = reads_keys c

-- a command asks for standard input, where the words name one (own)
abbrev pub asks_input : Option Command → Bool
asks_input None = false
asks_input (Some c) = reads_input c

-- the most bytes of the input of a command, where the words name one (own)
abbrev pub most_of : Option Command → ℕ
most_of None = 0
most_of (Some c) = most_input c

-- the words name a command that writes as it reads; the others write when all was read (own)
abbrev pub writes_along : Option Command → Bool
writes_along (Some commands.Check) = true
writes_along (Some commands.CheckPcap) = true
writes_along c = false

-- the most bytes that are read of an input past its limit (own)
abbrev pub past_limit : Option Command → ℕ
past_limit (Some commands.Check) = most_ahead_of_lines
past_limit (Some commands.CheckPcap) = most_ahead_of_packets
past_limit c = 1

-- the text for standard error: the statuses 5, 6 and 7 have their own (own)
abbrev pub text_of : ℕ → Answer → List ℕ
text_of status a =
    if status == 5 then read_fault
    else if status == 6 then write_fault
    else if status == 7 then memory
    else a.text

-- the text was offered: taken whole, or in front where the count of faults rose (own)
abbrev pub Offers : List ℕ → Side → Side → Type 0
Offers text before now =
    (n : ℕ) × WasWritten (take n text) before now × ((length text ≤ n) ⊎ Rose before now)

-- nothing was read of a side, which stays as it was (own)
abbrev pub Unread : List ℕ → Side → Side → Type 0
Unread given before now = (now ≡ before) × (given ≡ [])

-- a status comes after the key file was read: 0, 1, and 6 where writing failed (own)
abbrev pub IsWritten : ℕ → Type 0
IsWritten status = (status < 2) ⊎ (status ≡ 6)

-- the input was read to its end: with 0 and 1, and with 6 by a command that writes when all was
-- read (own)
abbrev pub ReadsAll : Option Command → ℕ → Type 0
ReadsAll c status = (status < 2) ⊎ ((status ≡ 6) × (writes_along c ≡ false))

-- nothing is written: with 2 and 3, and with 4, 5 and 7 by a command that writes when all was
-- read (own)
abbrev pub WritesNothing : Option Command → ℕ → Type 0
WritesNothing c status =
    ((2 ≤ status) × (status < 4)) ⊎ ((writes_along c ≡ false)
    × (((4 ≤ status) × (status < 6)) ⊎ (status ≡ 7)))

-- how a check of stored segments ends that is done or stopped so: the status, and the text for
-- standard error (own)
abbrev pub check_end : Result Bool Halt → ℕ × List ℕ
check_end (Ok amiss) = (if amiss then 1 else 0, [])
check_end (Err (halt.Line n kind)) = (4, input_fault_text (Line n kind))
check_end (Err (halt.Head fault)) = (4, pcap_fault_line (BadHead fault))
check_end (Err (halt.Record n)) = (4, pcap_fault_line (BadRecord n))
check_end (Err halt.TooLong) = (4, too_long)
check_end (Err halt.Read) = (5, read_fault)
check_end (Err halt.Write) = (6, write_fault)
check_end (Err halt.Memory) = (7, memory)

-- with this status standard error was offered that text, unless there was no memory for the text
-- of a fault of the input (own)
abbrev pub EndsSo : ℕ × List ℕ → Side → Side → ℕ → Type 0
EndsSo end before now status =
    ((status ≡ end.0) × Offers end.1 before now) ⊎ ((end.0 ≡ 4) × (status ≡ 7)
    × Offers memory before now)

-- `check KEYS` by these tables reads, judges and writes line by line (own)
pub record ChecksLines (tables : List Table) (input : List ℕ) (before now : Sides) (status : ℕ)
    : Type 0 where
  pub end : Result Bool Halt
  pub judges : JudgesLines tables input before.input now.input before.out now.out end
  pub ends : EndsSo (check_end end) before.err now.err status

-- `check --pcap KEYS` by these tables reads, judges and writes packet by packet (own)
pub record ChecksPackets (tables : List Table) (input : List ℕ) (before now : Sides) (status : ℕ)
    : Type 0 where
  pub end : Result Bool Halt
  pub judges : JudgesPackets tables input before.input now.input before.out now.out end
  pub ends : EndsSo (check_end end) before.err now.err status

-- the key file wasn't read, or is refused: the input isn't read, and nothing written (own)
pub record NotBegun (text input : List ℕ) (before now : Sides) (status : ℕ) : Type 0 where
  pub stops : (status ≡ 3) ⊎ ((status ≡ 5) ⊎ (status ≡ 7))
  pub unread : Unread input before.input now.input
  pub nothing : WasWritten [] before.out now.out
  pub told : Offers text before.err now.err

-- the key file is one of valid tables, and what is said of a check by tables holds of these (own)
pub record Begun (keys : List ℕ) (Check : List Table → Type 0) : Type 0 where
  pub tables : List Table
  pub is_key_file : tables_of keys ≡ Ok tables
  pub few : length keys ≤ most_keys
  pub checks : Check tables

-- what a command does that writes as it reads (own)
abbrev pub Along : Option Command → (keys text input : List ℕ) → Sides → Sides → ℕ → Type 0
Along (Some commands.Check) keys text input before now status =
    NotBegun text input before now status ⊎ Begun keys
    (λ tables. ChecksLines tables input before now status)
Along (Some commands.CheckPcap) keys text input before now status =
    NotBegun text input before now status ⊎ Begun keys
    (λ tables. ChecksPackets tables input before now status)
Along c keys text input before now status = Unit {0}

-- in a call for this command the key file and standard input gave these bytes, and it ended with
-- this status (own)
pub record ObeysAs (command : Option Command) (keys input : List ℕ) (before now : Sides)
    (status : ℕ) : Type 0 where
  -- what was read: past a limit no more than shows it, or than is kept by a command that writes as
  -- it reads
  pub gave_keys : Gave keys before.keys now.keys
  pub gave_input : Gave input before.input now.input
  pub few_keys : length keys ≤ most_keys + 1
  pub few_input : length input ≤ most_of command + past_limit command
  -- a source that the words don't ask for isn't read; nor is the input before the key file's end,
  -- or where the key file is refused
  pub keys_alone : asks_keys command ≡ false → Unread keys before.keys now.keys
  pub input_alone : (asks_input command ≡ false) ⊎ ((answer command keys input).status ≡ 3) →
      Unread input before.input now.input
  pub keys_first : asks_keys command ≡ true → IsAtEnd now.keys ⊎ Unread input before.input now.input
  -- the statuses 0 to 4 are the answer's; words of no command are always refused; the key file is
  -- read before anything is written
  pub known : status < 5 → status ≡ (answer command keys input).status
  pub usage : command ≡ None → status ≡ 2
  pub keys_end : IsWritten status ⊎ (status ≡ 4) → asks_keys command ≡ true → IsAtEnd now.keys
  pub input_end : ReadsAll command status → asks_input command ≡ true → IsAtEnd now.input
  -- 3 comes after the whole key file and 4 after the whole input, or after more than its limit
  pub keys_judged : status ≡ 3 → IsAtEnd now.keys ⊎ (most_keys < length keys)
  pub judged : status ≡ 4 → writes_along command ≡ false →
      IsAtEnd now.input ⊎ (most_of command < length input)
  -- 5: a source that the words ask for failed, the key file before the input was read; 6: writing
  -- failed; 7 is want of memory
  pub read : status ≡ 5 →
      ((asks_keys command ≡ true) × Rose before.keys now.keys × Unread input before.input now.input)
      ⊎ ((asks_input command ≡ true) × ((answer command keys input).status ≢ 3)
      × Rose before.input now.input)
  pub write : status ≡ 6 → Rose before.out now.out
  pub no_other : status < 8
  -- what was written: the whole output, a part where writing failed, else nothing
  pub whole : status < 2 → WasWritten (answer command keys input).output before.out now.out
  pub part : status ≡ 6 → writes_along command ≡ false →
      ((answer command keys input).status < 2)
      × ((n : ℕ) × (n < length (answer command keys input).output)
      × WasWritten (take n (answer command keys input).output) before.out now.out)
  pub nothing : WritesNothing command status → WasWritten [] before.out now.out
  -- what standard error was offered
  pub told : writes_along command ≡ false →
      Offers (text_of status (answer command keys input)) before.err now.err
  -- how far a command that writes as it reads came, and what it was that it wrote and told
  pub along : Along command keys (text_of status (answer command keys input)) input before now
      status

-- in a call with these words the key file and standard input gave these bytes, and it ended with
-- this status, as the command that the words name obeys (own)
abbrev pub Obeys : List (List ℕ) → (keys input : List ℕ) → Sides → Sides → ℕ → Type 0
Obeys words keys input before now status = ObeysAs (command_of words) keys input before now status
