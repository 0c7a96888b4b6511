-- The text that `vectors` writes. Our own format. Its top is `vectors_of`.
use Rattle.std.specs.Prelude.{ℕ, not, if◌then◌else◌, Bool, List, [], ◌∷◌, ◌++◌, length, codes}
use Rattle.std.specs.Prelude.{decimal, count_by, Result, Ok}
use Rattle.std.specs.List.{flat_map}
use Rattle.std.specs.Str.{bytes_eq}
use Rattle.book_base.specs.Hexadecimal.{hex_of}
use Rattle.book_lines.specs.declared.text_fault.TextFault.{TextFault}
use Rattle.book_lines.specs.Said.{Said, said_in}
use Rattle.book_lines.specs.Texts.{line_text, numbered_text}
use Rattle.book_base.specs.Results.{◌>>=◌}
use Rattle.book_cmd_check.specs.declared.verified.Verified.{Verified}
use Rattle.book_cmd_check.specs.Vectors.{Vector, vector_of}

-- what a vector computes is what its line says (own)
abbrev pub agrees : Vector → Bool
agrees v = bytes_eq v.computed v.expected

-- the words for a vector: `ok`, or `differs` with what is computed (own)
abbrev pub verdict_texts : Vector → List (List ℕ)
verdict_texts v = if agrees v then codes "ok" ∷ [] else codes "differs" ∷ hex_of v.computed ∷ []

-- the line of a vector (own)
unfoldable pub verdict_line : Said Vector → List ℕ
verdict_line said = numbered_text said.number (verdict_texts said.value)

-- a vector of a line differs from what the line says (own)
abbrev pub differs : Said Vector → Bool
differs said = not (agrees said.value)

-- the last line: how many vectors there are, and how many differ (own)
abbrev pub totals_line : (count differing : ℕ) → List ℕ
totals_line count differing =
    line_text (codes "vectors" ∷ decimal count ∷ codes "differing" ∷ decimal differing ∷ [])

-- a line for each vector of a text and the totals, or the first faulty line (own)
unfoldable pub vectors_of : List ℕ → Result Verified TextFault
vectors_of text = do
  vectors ← said_in vector_of text
  let differing = count_by differs vectors in
      Ok (record {
        text = flat_map verdict_line vectors ++ totals_line (length vectors) differing;
        differing = differing;
      })
