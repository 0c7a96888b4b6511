-- What a run reads and writes, before and after (own).
use Rattle.std.specs.Prelude.{◌≡◌, ◌⊎◌, ℕ, ◌≤◌, List, [], length, take}
use Rattle.ao_base.specs.Outside.{Side, WasWritten, Rose}

-- the key file, the file of initial sequence numbers, standard input and standard output (own)
pub record Sides : Type 0 where
  pub keys : Side
  pub isns : Side
  pub input : Side
  pub out : Side

-- the bytes that each of them gave in the call (own)
pub record Given : Type 0 where
  pub keys : List ℕ
  pub isns : List ℕ
  pub input : List ℕ

-- the input and standard output, before and after, and the bytes that the input gave (own)
pub record Flow : Type 0 where
  pub given : List ℕ
  pub input_before : Side
  pub input_now : Side
  pub out_before : Side
  pub out_now : Side

-- these two of what a run reads and writes (own)
abbrev pub flow : Given → (before now : Sides) → Flow
flow g before now = record {
  given = g.input;
  input_before = before.input;
  input_now = now.input;
  out_before = before.out;
  out_now = now.out;
}

-- nothing was read there, which stays as it was (own)
abbrev pub Unread : List ℕ → Side → Side → Type 0
Unread given before now = (given ≡ []) × (now ≡ before)

-- the text was offered: taken whole, or a front part of it where the count of faults rose (own)
abbrev pub Offers : List ℕ → Side → Side → Type 0
Offers text before now =
    (n : ℕ) × WasWritten (take n text) before now × ((length text ≤ n) ⊎ Rose before now)
