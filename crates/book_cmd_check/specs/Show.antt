-- The text that `show` writes. Our own format. Its top is `show_of`.
use Rattle.std.specs.Prelude.{ℕ, List, [], ◌∷◌, codes, Result, Ok}
use Rattle.std.specs.List.{flat_map}
use Rattle.book_lines.specs.declared.line_kind.LineKind.{LineKind}
use Rattle.book_segments.specs.Faults.{fault_text}
use Rattle.book_segments.specs.Segments.{Reading, Bad, Read, reading}
use Rattle.book_lines.specs.declared.text_fault.TextFault.{TextFault}
use Rattle.book_lines.specs.Said.{Said, said_in}
use Rattle.book_lines.specs.Texts.{numbered_text}
use Rattle.book_lines.specs.Words.{hex_in, nothing_in}
use Rattle.book_base.specs.Results.{◌>>=◌}
use Rattle.book_cmd_check.specs.DatagramTexts.{datagram_texts}

-- the bytes that the words of a line say in hexadecimal, and nothing else (own)
unfoldable pub bytes_of_line : List (List ℕ) → Result (List ℕ) LineKind
bytes_of_line ws = do
  bytes ← hex_in ws
  no_more ← nothing_in bytes.rest
  Ok bytes.value

-- the words for the fields of a datagram, or for why bytes are none (own)
abbrev pub reading_texts : Reading → List (List ℕ)
reading_texts (Bad fault) = codes "bad" ∷ fault_text fault ∷ []
reading_texts (Read d) = datagram_texts d

-- the line that shows bytes (own)
unfoldable pub shown_line : Said (List ℕ) → List ℕ
shown_line said = numbered_text said.number (reading_texts (reading said.value))

-- a line for each datagram of a text, or the first faulty line (own)
unfoldable pub show_of : List ℕ → Result (List ℕ) TextFault
show_of text = do
  datagrams ← said_in bytes_of_line text
  Ok (flat_map shown_line datagrams)
