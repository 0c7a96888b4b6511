-- The lines of an input that say something. Our own format. Its top is `saying_lines`.
use Rattle.std.specs.Prelude.{ℕ, ◌+◌, ◌==◌, not, if◌then◌else◌, Bool, false, List, [], ◌∷◌}
use Rattle.book_base.specs.Lines.{lines_of, words_of}

-- the most lines of an input (own)
abbrev pub most_lines : ℕ
most_lines = 20000

-- a line with words: its number among all lines, from 1, and its words (own)
pub record Line : Type 0 where
  pub number : ℕ
  pub words : List (List ℕ)

-- the first byte of a word is a number sign (own)
abbrev pub is_comment : List ℕ → Bool
is_comment [] = false
is_comment (b ∷ bs) = b == 35

-- lines without words, and lines whose first word begins with a number sign, say nothing (own)
unfoldable pub says_something : List (List ℕ) → Bool
says_something [] = false
says_something (w ∷ ws) = not (is_comment w)

-- the lines that say something, the first line having the number n (own)
unfoldable pub saying_from : ℕ → List (List ℕ) → List Line
saying_from n [] = []
saying_from n (l ∷ ls) =
    if says_something (words_of l)
    then record { number = n; words = words_of l } ∷ saying_from (n + 1) ls
    else saying_from (n + 1) ls

-- the lines of a text that say something (own)
abbrev pub saying_lines : List ℕ → List Line
saying_lines text = saying_from 1 (lines_of text)
