-- What reading and running answer, before anything is written (own).
use Rattle.std.specs.Prelude.{◌≡◌, ◌≢◌, ◌⊎◌, ℕ, ◌+◌, ◌<◌, ◌≤◌, nat_le, nat_lt, ◌&&◌, Bool, true}
use Rattle.std.specs.Prelude.{false, List, [], length, Option, Some, None, is_some, Result, Ok}
use Rattle.std.specs.Prelude.{Err, IfOk, IfErr, if◌then◌else◌}
use Rattle.ao_base.specs.Outside.{Side, Gave, Rose, IsAtEnd}
use Rattle.book_keys.specs.Nodes.{most_keys, tables_of}
use Rattle.book_keys.specs.Rows.{Table}
use Rattle.book_answer.specs.declared.command.Command.{Command}
use Rattle.book_answer.specs.declared.command.Command.TheVariants as command
use Rattle.book_answer.specs.Answers.{Answer, answer_of, answer_over, long_text}
use Rattle.book_answer.specs.Answers.{most_input, refusal}
use Rattle.book_answer.specs.Commands.{reads_keys, reads_input}
use Rattle.ao_run.specs.declared.job.Job.{Job}
use Rattle.ao_run.specs.declared.job.Whole.{Whole}
use Rattle.ao_run.specs.declared.stop.Output.{Output}
use Rattle.ao_run.specs.declared.stop.Stop.{Stop}
use Rattle.ao_run.specs.Jobs.{job_command, job_tables, whole_command, whole_tables}
use Rattle.ao_run.specs.Obeys.{Unread, asks_keys, asks_input, most_of, writes_along}
use Rattle.ao_run.specs.Stops.{status_of, text_of, made}

-- a storm draws at most 10,000 events (own)
abbrev pub draws_few : Command → Bool
draws_few (command.Storm seed count) = nat_le count 10000
draws_few _ = true

-- the words name no command, or one that draws few events (own)
abbrev pub is_ready : Option Command → Bool
is_ready None = true
is_ready (Some c) = draws_few c

-- the tables that a command has (own)
abbrev pub tables_in : Option (List Table) → List Table
tables_in None = []
tables_in (Some tables) = tables

-- the answer of a command over tables, whose input may be past its limit (own)
abbrev pub answer_in : Command → List Table → List ℕ → Answer
answer_in c tables input =
    if reads_input c && nat_lt (most_input c) (length input) then refusal 4 (long_text c input)
    else answer_over c tables input

-- the key file gave these bytes: the tables, where the command reads it (own)
pub record KeysGathered (c : Command) (keys : List ℕ) (before now : Side)
    (result : Result (Option (List Table)) Stop) : Type 0 where
  pub gave : Gave keys before now
  pub few : length keys ≤ most_keys + 1
  pub alone : reads_keys c ≡ false → Unread keys before now
  pub some : IfOk result (λ t. is_some t ≡ reads_keys c)
  pub over : IfOk result (λ t. reads_keys c ≡ true → IsAtEnd now)
  pub value : IfOk result (λ t. (input : List ℕ)
      → answer_of (Some c) keys input ≡ answer_in c (tables_in t) input)
  pub file : IfOk result (λ t. (tables : List Table) → t ≡ Some tables
      → (tables_of keys ≡ Ok tables) × (length keys ≤ most_keys))
  pub asked : IfErr result (λ stop. reads_keys c ≡ true)
  pub within : IfErr result (λ stop. (3 ≤ status_of stop) × (status_of stop < 8)
      × (status_of stop ≢ 4) × (status_of stop ≢ 6))
  pub refused : IfErr result (λ stop. status_of stop ≡ 3 → (input : List ℕ)
      → answer_of (Some c) keys input ≡ refusal 3 (text_of stop))
  pub judged : IfErr result (λ stop. status_of stop ≡ 3 → IsAtEnd now ⊎ (most_keys < length keys))
  pub fault : IfErr result (λ stop. status_of stop ≡ 5 → Rose before now)

-- the tables that were read, for a command that stands on them (own)
abbrev pub for_command : Result (List Table) Stop → Result (Option (List Table)) Stop
for_command (Ok tables) = Ok (Some tables)
for_command (Err stop) = Err stop

-- the key file gave these bytes, whichever command reads it (own)
pub record KeysRead (keys : List ℕ) (before now : Side) (result : Result (List Table) Stop)
    : Type 0 where
  pub for_each : (c : Command) → reads_keys c ≡ true →
      KeysGathered c keys before now (for_command result)

-- the tables of a job that was made (own)
abbrev pub tables_made : Result Job Stop → Result (Option (List Table)) Stop
tables_made (Ok job) = Ok (job_tables job)
tables_made (Err stop) = Err stop

-- the key file gave these bytes: the job of the command, with the tables where it reads them (own)
pub record Prepares (c : Command) (keys : List ℕ) (before now : Side) (result : Result Job Stop)
    : Type 0 where
  pub reads : KeysGathered c keys before now (tables_made result)
  pub same : IfOk result (λ job. job_command job ≡ c)

-- the input gave these bytes: all of them, where the command reads it (own)
pub record InputGathered (c : Command) (input : List ℕ) (before now : Side)
    (result : Result (List ℕ) Stop) : Type 0 where
  pub gave : Gave input before now
  pub few : length input ≤ most_input c + 1
  pub alone : reads_input c ≡ false → Unread input before now
  pub same : IfOk result (λ text. text ≡ input)
  pub over : IfOk result (λ text. reads_input c ≡ true → IsAtEnd now)
  pub value : IfOk result (λ text. (tables : List Table)
      → answer_in c tables input ≡ answer_over c tables input)
  pub asked : IfErr result (λ stop. reads_input c ≡ true)
  pub within : IfErr result (λ stop. (4 ≤ status_of stop) × (status_of stop < 8)
      × (status_of stop ≢ 6))
  pub refused : IfErr result (λ stop. status_of stop ≡ 4 → writes_along (Some c) ≡ false
      → (tables : List Table) → answer_in c tables input ≡ refusal 4 (text_of stop))
  pub judged : IfErr result (λ stop. status_of stop ≡ 4 → most_input c < length input)
  pub fault : IfErr result (λ stop. status_of stop ≡ 5 → Rose before now)

-- the sides that are read, before and after (own)
pub record Sources : Type 0 where
  pub keys : Side
  pub input : Side

-- the key file and the input gave these bytes (own)
pub record Gathered (command : Option Command) (keys input : List ℕ) (before now : Sources)
    (result : Result Output Stop) : Type 0 where
  pub gave_keys : Gave keys before.keys now.keys
  pub gave_input : Gave input before.input now.input
  pub few_keys : length keys ≤ most_keys + 1
  pub few_input : length input ≤ most_of command + 1
  pub keys_alone : asks_keys command ≡ false → Unread keys before.keys now.keys
  pub input_alone : (asks_input command ≡ false) ⊎ ((answer_of command keys input).status ≡ 3) →
      Unread input before.input now.input
  pub keys_first : asks_keys command ≡ true → IsAtEnd now.keys ⊎ Unread input before.input now.input
  pub done : IfOk result (λ o. (answer_of command keys input ≡ made o) × (o.status < 2))
  pub keys_end : IfOk result (λ o. asks_keys command ≡ true → IsAtEnd now.keys)
  pub input_end : IfOk result (λ o. asks_input command ≡ true → IsAtEnd now.input)
  pub usage : command ≡ None → IfErr result (λ stop. status_of stop ≡ 2) × IfOk result (λ o. ⊥)
  pub within : IfErr result (λ stop. (2 ≤ status_of stop) × (status_of stop < 8)
      × (status_of stop ≢ 6))
  pub refused : IfErr result (λ stop. status_of stop < 5
      → answer_of command keys input ≡ refusal (status_of stop) (text_of stop))
  pub keys_judged : IfErr result (λ stop. status_of stop ≡ 3
      → IsAtEnd now.keys ⊎ (most_keys < length keys))
  pub keys_over : IfErr result (λ stop. status_of stop ≡ 4 → asks_keys command ≡ true
      → IsAtEnd now.keys)
  pub judged : IfErr result (λ stop. status_of stop ≡ 4
      → IsAtEnd now.input ⊎ (most_of command < length input))
  pub fault : IfErr result (λ stop. status_of stop ≡ 5 →
      ((asks_keys command ≡ true) × Rose before.keys now.keys × Unread input before.input now.input)
      ⊎ ((asks_input command ≡ true) × ((answer_of command keys input).status ≢ 3)
      × Rose before.input now.input))

-- behind a key file that gave a command its tables, whatever it gave, the input gave these bytes
-- (own)
pub record GatheredBehind (whole : Whole) (input : List ℕ) (before now : Side)
    (result : Result Output Stop) : Type 0 where
  pub behind : (keys : List ℕ) (keys_before keys_now : Side) →
      KeysGathered (whole_command whole) keys keys_before keys_now (Ok (whole_tables whole)) →
      Gathered (Some (whole_command whole)) keys input
      (record { keys = keys_before; input = before }) (record { keys = keys_now; input = now })
      result
