-- Where the next line of a text stands, and the next word of a line (own).
use Rattle.std.specs.Prelude.{◌≡◌, ℕ, ◌+◌, ◌<◌, ◌≤◌, List, ◌∷◌, length, drop, slice_range}
use Rattle.book_base.specs.Lines.{lines_of, words_of}
use Rattle.ao_base.specs.declared.lines.Cut.{Cut}

-- the line that begins at the place; the next one begins after its newline (own)
pub record IsNextLine (text : List ℕ) (from : ℕ) (cut : Cut) : Type 0 where
  pub begins : cut.first ≡ from
  pub ordered : cut.first ≤ cut.after
  pub within : cut.after ≤ length text
  pub parts : lines_of (drop from text)
      ≡ slice_range text cut.first cut.after ∷ lines_of (drop (cut.after + 1) text)

-- the first word at or after the place (own)
pub record IsNextWord (line : List ℕ) (from : ℕ) (cut : Cut) : Type 0 where
  pub begins : from ≤ cut.first
  pub ordered : cut.first < cut.after
  pub within : cut.after ≤ length line
  pub parts : words_of (drop from line)
      ≡ slice_range line cut.first cut.after ∷ words_of (drop cut.after line)
