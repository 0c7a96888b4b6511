-- The bytes that the sessions of an end delivered.
use Rattle.std.specs.Prelude.{ℕ, List, [], ◌∷◌}
use Rattle.book_base.specs.declared.end.End.{End}
use Rattle.book_link.specs.Worlds.{Session, World, side}

-- of each session, the newest first
abbrev pub streams_of : List Session → List (List ℕ)
streams_of [] = []
streams_of (s ∷ ss) = s.state.taken ∷ streams_of ss

-- of the sessions of an end
abbrev pub streams : World → End → List (List ℕ)
streams w e = streams_of (side w e).sessions

-- of the live session; no byte where there is no session
abbrev pub newest : List (List ℕ) → List ℕ
newest [] = []
newest (bytes ∷ others) = bytes
