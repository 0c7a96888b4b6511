-- How a call of the program ends, and what was read, written and told then, for each way to end.
-- Its top is `Ends` (own).
use Rattle.std.specs.Prelude.{◌≡◌, ◌≢◌, ◌⊎◌, ℕ, ◌+◌, ◌<◌, ◌≤◌, Bool, true, false, List, []}
use Rattle.std.specs.Prelude.{length, take, Option, None}
use Rattle.ao_base.specs.Outside.{Gave, WasWritten, Rose, IsAtEnd}
use Rattle.book_answer.specs.declared.command.Command.{Command}
use Rattle.book_keys.specs.Nodes.{most_keys}
use Rattle.book_answer.specs.Answers.{Answer, answer_of as answer}
use Rattle.book_answer.specs.Answers.{read_fault, write_fault, memory}
use Rattle.book_answer.specs.Commands.{command_of, usage}
use Rattle.ao_run.specs.Obeys.{Sides, asks_keys, asks_input, most_of, writes_along, past_limit}
use Rattle.ao_run.specs.Obeys.{Offers, Unread, Along, text_of}

-- how a call ends (own)
pub data Outcome : Type 0 where
  Usage : Outcome  -- the words name no command
  KeysRefused : Outcome  -- the key file isn't one of valid tables
  InputRefused : Outcome  -- the input isn't in the command's grammar, or too long
  ReadFailed : Outcome  -- a source failed
  WriteFailed : Outcome  -- standard output failed
  NoMemory : Outcome  -- memory ran out
  Written : (amiss : Bool) → Outcome  -- the whole output was written

-- the status of the program (own)
abbrev pub status_in : Outcome → ℕ
status_in (Written false) = 0
status_in (Written true) = 1
status_in Usage = 2
status_in KeysRefused = 3
status_in InputRefused = 4
status_in ReadFailed = 5
status_in WriteFailed = 6
status_in NoMemory = 7

-- what was read, however the call ends: only what the words ask for, and no input where the key
-- file is refused; past a limit no more than shows it, or than is kept by a command that writes as
-- it reads; and the key file first (own)
pub record WasRead (c : Option Command) (keys input : List ℕ) (a : Answer) (before now : Sides)
    : Type 0 where
  pub gave_keys : Gave keys before.keys now.keys
  pub gave_input : Gave input before.input now.input
  pub few_keys : length keys ≤ most_keys + 1
  pub few_input : length input ≤ most_of c + past_limit c
  pub keys_alone : asks_keys c ≡ false → Unread keys before.keys now.keys
  pub input_alone : (asks_input c ≡ false) ⊎ (a.status ≡ 3) →
      Unread input before.input now.input
  pub keys_first : asks_keys c ≡ true → IsAtEnd now.keys ⊎ Unread input before.input now.input

-- a command that writes when all was read has written nothing, and this text was offered to
-- standard error (own)
abbrev pub HeldBack : Option Command → List ℕ → (before now : Sides) → Type 0
HeldBack c text before now = writes_along c ≡ false →
    WasWritten [] before.out now.out × Offers text before.err now.err

-- the words name no command: the usage is told (own)
pub record EndsByUsage (c : Option Command) (before now : Sides) : Type 0 where
  pub none : c ≡ None
  pub nothing : WasWritten [] before.out now.out
  pub told : Offers usage before.err now.err

-- the key file is refused, when it was read or has too many bytes: the input isn't read (own)
pub record EndsByKeys (c : Option Command) (keys input : List ℕ) (a : Answer) (before now : Sides)
    : Type 0 where
  pub is : a.status ≡ 3
  pub judged : IsAtEnd now.keys ⊎ (most_keys < length keys)
  pub unread : Unread input before.input now.input
  pub nothing : WasWritten [] before.out now.out
  pub told : writes_along c ≡ false → Offers a.text before.err now.err

-- the input is refused, when it was read or has too many bytes (own)
pub record EndsByInput (c : Option Command) (input : List ℕ) (a : Answer) (before now : Sides)
    : Type 0 where
  pub is : a.status ≡ 4
  pub keys_end : asks_keys c ≡ true → IsAtEnd now.keys
  pub judged : writes_along c ≡ false → IsAtEnd now.input ⊎ (most_of c < length input)
  pub held_back : HeldBack c a.text before now

-- the key file failed, before the input was read; or the input, and the key file isn't refused
-- (own)
pub record EndsByReading (c : Option Command) (input : List ℕ) (a : Answer) (before now : Sides)
    : Type 0 where
  pub failed :
      ((asks_keys c ≡ true) × Rose before.keys now.keys × Unread input before.input now.input)
      ⊎ ((asks_input c ≡ true) × (a.status ≢ 3) × Rose before.input now.input)
  pub held_back : HeldBack c read_fault before now

-- the part of an output that was written where writing failed; all had been read (own)
pub record WritesPart (c : Option Command) (a : Answer) (before now : Sides) : Type 0 where
  pub is : a.status < 2
  pub input_end : asks_input c ≡ true → IsAtEnd now.input
  pub n : ℕ
  pub less : n < length a.output
  pub wrote : WasWritten (take n a.output) before.out now.out
  pub told : Offers write_fault before.err now.err

-- standard output failed, with a part of the output written (own)
pub record EndsByWriting (c : Option Command) (a : Answer) (before now : Sides) : Type 0 where
  pub rose : Rose before.out now.out
  pub keys_end : asks_keys c ≡ true → IsAtEnd now.keys
  pub part : writes_along c ≡ false → WritesPart c a before now

-- all was read, and the whole output is written (own)
pub record EndsWhole (c : Option Command) (amiss : Bool) (a : Answer) (before now : Sides)
    : Type 0 where
  pub is : a.status ≡ status_in (Written amiss)
  pub keys_end : asks_keys c ≡ true → IsAtEnd now.keys
  pub input_end : asks_input c ≡ true → IsAtEnd now.input
  pub wrote : WasWritten a.output before.out now.out
  pub told : writes_along c ≡ false → Offers a.text before.err now.err

-- memory ran out, which no words without a command bring about (own)
pub record EndsByMemory (c : Option Command) (before now : Sides) : Type 0 where
  pub named : c ≢ None
  pub held_back : HeldBack c memory before now

-- what is so at each outcome (own)
abbrev pub EndsIn : Outcome → Option Command → (keys input : List ℕ) → Answer →
    (before now : Sides) → Type 0
EndsIn Usage c keys input a before now = EndsByUsage c before now
EndsIn KeysRefused c keys input a before now = EndsByKeys c keys input a before now
EndsIn InputRefused c keys input a before now = EndsByInput c input a before now
EndsIn ReadFailed c keys input a before now = EndsByReading c input a before now
EndsIn WriteFailed c keys input a before now = EndsByWriting c a before now
EndsIn NoMemory c keys input a before now = EndsByMemory c before now
EndsIn (Written amiss) c keys input a before now = EndsWhole c amiss a before now

-- in a call for this command the key file and standard input gave these bytes, and it ended with
-- this status (own)
pub record EndsAs (c : Option Command) (keys input : List ℕ) (before now : Sides) (status : ℕ)
    : Type 0 where
  pub read : WasRead c keys input (answer c keys input) before now
  pub outcome : Outcome
  pub status_is : status ≡ status_in outcome
  pub ends : EndsIn outcome c keys input (answer c keys input) before now
  -- how far a command that writes as it reads came, and what it was that it wrote and told
  pub along : Along c keys (text_of status (answer c keys input)) input before now status

-- the same of a call with these words (own)
abbrev pub Ends : List (List ℕ) → (keys input : List ℕ) → Sides → Sides → ℕ → Type 0
Ends words keys input before now status = EndsAs (command_of words) keys input before now status
