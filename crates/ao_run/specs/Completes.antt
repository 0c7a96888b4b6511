-- That the program does what it is for. Its top is `Completes` (own).
use Rattle.std.specs.Prelude.{◌≡◌, ◌⊎◌, ℕ, ◌<◌, Bool, true, List, length, Some}
use Rattle.ao_base.specs.Outside.{Side, WasWritten, Rose}
use Rattle.book_answer.specs.Answers.{answer_of}
use Rattle.book_answer.specs.Commands.{command_of}
use Rattle.ao_run.specs.Obeys.{Sides, asks_keys, asks_input}

-- no fault comes in the call, or the side told before it that none comes while these bytes go by
-- (own)
abbrev pub IsCalm : List ℕ → Side → Side → Type 0
IsCalm bytes before now =
    (Rose before now → ⊥) ⊎ ((most : ℕ) × (before.quiet ≡ Some most) × (length bytes < most)
    × (before.faults < 18446744073709551615))

-- a source, where it is asked for, tells these bytes, and no fault comes while they are read
-- (own)
pub record Tells (asked : Bool) (bytes : List ℕ) (before now : Side) : Type 0 where
  pub told : asked ≡ true → before.bytes ≡ Some bytes
  pub calm : asked ≡ true → IsCalm bytes before now

-- where the answer to what the sources tell is an output, and no fault comes while they are read
-- and it is written, the whole output is written with its status, or memory runs out (own)
pub record Completes (words : List (List ℕ)) (before now : Sides) (status : ℕ) : Type 0 where
  pub done : (keys input : List ℕ) →
      let a = answer_of (command_of words) keys input in a.status < 2 →
      Tells (asks_keys (command_of words)) keys before.keys now.keys →
      Tells (asks_input (command_of words)) input before.input now.input →
      IsCalm a.output before.out now.out →
      ((status ≡ a.status) × WasWritten a.output before.out now.out) ⊎ (status ≡ 7)
