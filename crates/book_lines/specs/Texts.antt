-- The lines of an output. Our own format. Its top is `numbered_text`.
use Rattle.std.specs.Prelude.{ℕ, List, [], ◌∷◌, ◌++◌, codes, decimal}
use Rattle.book_base.specs.declared.address.Socket.{Socket}
use Rattle.book_base.specs.declared.end.End.{End}
use Rattle.book_base.specs.declared.end.End.TheVariants.{A, B}
use Rattle.book_base.specs.Addresses.{address_text}

-- each text with a space in front of it (own)
abbrev pub spaced : List (List ℕ) → List ℕ
spaced [] = []
spaced (w ∷ ws) = 32 ∷ w ++ spaced ws

-- a line of texts: a space between them, and a newline (own)
abbrev pub line_text : List (List ℕ) → List ℕ
line_text [] = 10 ∷ []
line_text (w ∷ ws) = w ++ (spaced ws ++ 10 ∷ [])

-- the line of an output that speaks of a line: its number in front (own)
abbrev pub numbered_text : ℕ → List (List ℕ) → List ℕ
numbered_text n texts = line_text (decimal n ∷ texts)

-- the name of an end (own)
abbrev pub end_text : End → List ℕ
end_text A = codes "a"
end_text B = codes "b"

-- an address and a port, and the texts after them (own)
abbrev pub socket_texts : Socket → List (List ℕ) → List (List ℕ)
socket_texts s others = address_text s.address ∷ decimal s.port ∷ others
