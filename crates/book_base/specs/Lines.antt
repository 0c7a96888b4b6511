-- Lines of a text and words of a line (own).
use Rattle.std.specs.Prelude.{ℕ, ◌==◌, ◌||◌, Bool, true, cond, List, [], ◌∷◌}

-- a newline byte (own)
abbrev pub is_newline : ℕ → Bool
is_newline byte = byte == 10

-- a space, a tab or a carriage return (own)
abbrev pub is_blank : ℕ → Bool
is_blank byte = byte == 32 || byte == 9 || byte == 13

-- a byte at the front of the first part (own)
abbrev pub onto_first : ℕ → List (List ℕ) → List (List ℕ)
onto_first byte [] = (byte ∷ []) ∷ []
onto_first byte (part ∷ parts) = (byte ∷ part) ∷ parts

-- a line ends at a newline byte or at the end of the text; a last line without bytes isn't one
-- (own)
unfoldable pub lines_of : List ℕ → List (List ℕ)
lines_of [] = []
lines_of (byte ∷ text) =
    cond (is_newline byte) ([] ∷ lines_of text) (onto_first byte (lines_of text))

-- no byte of a word stands here: the end, or a blank (own)
abbrev pub is_apart : List ℕ → Bool
is_apart [] = true
is_apart (byte ∷ line) = is_blank byte

-- words are what stands between blanks, each of at least one byte (own)
unfoldable pub words_of : List ℕ → List (List ℕ)
words_of [] = []
words_of (byte ∷ line) = cond (is_blank byte) (words_of line)
    (cond (is_apart line) ((byte ∷ []) ∷ words_of line) (onto_first byte (words_of line)))
