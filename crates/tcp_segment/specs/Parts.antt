-- Parts of a buffer that is written in place.
use Rattle.std.specs.Prelude.{ℕ, ◌+◌, List, ◌++◌, length, take, drop}

-- the list with a part of it replaced, from a place on
abbrev pub spliced : List ℕ → ℕ → List ℕ → List ℕ
spliced whole at part = take at whole ++ part ++ drop (at + length part) whole
