-- Bytes that are put after others, where there is room for 40.
use Rattle.std.specs.Prelude.{◌≡◌, ℕ, ◌+◌, ◌<◌, Bool, true, false, List, ◌++◌, length}

-- the piece stands after the others, or it had no room there
abbrev pub Puts : (old piece new : List ℕ) → Bool → Type 0
Puts old piece new true = new ≡ old ++ piece
Puts old piece new false = 40 < length old + length piece
