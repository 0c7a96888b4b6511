-- What the top call does over files in memory: it gives the answer. Its top is `IsAnswered`.
use Rattle.std.specs.Prelude.{◌≡◌, ◌⊎◌, ℕ, ◌≤◌, true, List, [], length, Some}
use Rattle.ao_base.specs.Outside.{Rose}
use Rattle.ao_run.specs.Obeys.{Sides, most_of, writes_along}
use Rattle.ao_run.specs.Runs.{Runs}
use Rattle.book_answer.specs.Answers.{Answer, answer}
use Rattle.book_answer.specs.Commands.{command_of}

-- the key file and the input are these bytes in memory, and what is written and told is kept from
-- the first byte on; no read and no write fails; an input of the two checks that write as they
-- read, `check` and `check --pcap`, is within its limit (own)
pub record InMemory (words : List (List ℕ)) (keys input : List ℕ) (before now : Sides)
    : Type 0 where
  pub key_file : before.keys.bytes ≡ Some keys
  pub all_input : before.input.bytes ≡ Some input
  pub out_empty : before.out.bytes ≡ Some []
  pub err_empty : before.err.bytes ≡ Some []
  pub keys_calm : Rose before.keys now.keys → ⊥
  pub input_calm : Rose before.input now.input → ⊥
  pub out_calm : Rose before.out now.out → ⊥
  pub err_calm : Rose before.err now.err → ⊥
  pub within : writes_along (command_of words) ≡ true → length input ≤ most_of (command_of words)

-- the status is the answer's, and its output was written and its text told, whole (own)
pub record Gives (a : Answer) (status : ℕ) (now : Sides) : Type 0 where
  pub status_is : status ≡ a.status
  pub output : now.out.bytes ≡ Some a.output
  pub text : now.err.bytes ≡ Some a.text

-- a call over files in memory gives the answer to its words and these files, or memory runs out
-- (own)
abbrev pub IsAnswered : Type 0
IsAnswered = (words : List (List ℕ)) (keys input : List ℕ) (before now : Sides) (status : ℕ)
    (read_keys read_input : List ℕ)
    → Runs words read_keys read_input before now status → InMemory words keys input before now
    → Gives (answer words keys input) status now ⊎ (status ≡ 7)
