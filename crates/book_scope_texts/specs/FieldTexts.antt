-- What is said of a field of a key file: whose it is, the value that stands there, and what is
-- wanted. Our own format. Its tops are `field_said`, `hidden_said` and `finding_unless`.
use Rattle.std.specs.Prelude.{ℕ, zero, suc, nat_le, nat_lt, ◌&&◌, ◌++◌, Bool, true, false, List, []}
use Rattle.std.specs.Prelude.{◌∷◌, length, take, map, codes, decimal, Option, Some, None}
use Rattle.std.specs.Prelude.{if◌then◌else◌, pos, int_lt, unsigned_abs}
use Rattle.toml.specs.Data.{Data, string, integer, float, boolean, datetime, array, table}
use Rattle.book_scope_texts.specs.declared.finding.KeyFinding.{KeyFinding}
use Rattle.book_scope_texts.specs.declared.finding.KeyPlace.{KeyPlace}

-- a byte of a text as it is shown: a question mark for what isn't printed (own)
abbrev pub shown_byte : ℕ → ℕ
shown_byte byte = if nat_le 0x20 byte && nat_le byte 0x7e then byte else 0x3f

-- how many bytes of a text are shown at most (own)
abbrev pub longest_shown : ℕ
longest_shown = 64

-- a text as it is shown: its first 64 bytes (own)
unfoldable pub text_shown : List ℕ → List ℕ
text_shown text =
    map shown_byte (take longest_shown text)
    ++ (if nat_lt longest_shown (length text) then codes ".." else [])

-- a minus in front of a number below 0 (own)
abbrev pub minus_if : Bool → List ℕ
minus_if true = codes "-"
minus_if false = []

-- a value as it is shown, with its type where it is no text (own)
unfoldable pub shown_value : Data → List ℕ
shown_value (string s) = 0x22 ∷ (text_shown s ++ (0x22 ∷ []))
shown_value (integer z) =
    minus_if (int_lt z (pos 0)) ++ (decimal (unsigned_abs z) ++ codes ", an integer")
shown_value (float x) = codes "a float"
shown_value (boolean true) = codes "true, a boolean"
shown_value (boolean false) = codes "false, a boolean"
shown_value (datetime dt) = codes "a date or time"
shown_value (array ds) = codes "an array"
shown_value (table ms) = codes "a table"

-- the type of a value, of which nothing more is shown (own)
unfoldable pub type_shown : Data → List ℕ
type_shown (string s) = codes "a text"
type_shown (integer z) = codes "an integer"
type_shown (float x) = codes "a float"
type_shown (boolean b) = codes "a boolean"
type_shown (datetime dt) = codes "a date or time"
type_shown (array ds) = codes "an array"
type_shown (table ms) = codes "a table"

-- what is said of a field whose value may be a secret: its type, and what is wanted (own)
unfoldable pub hidden_said : Option Data → (wanted : List ℕ) → List ℕ
hidden_said None wanted = codes "missing; wanted: " ++ wanted
hidden_said (Some d) wanted = type_shown d ++ (codes "; wanted: " ++ wanted)

-- what is said of a field: the value that stands there, a hint, and what is wanted (own)
unfoldable pub field_said : Option Data → (hint wanted : List ℕ) → List ℕ
field_said None hint wanted = codes "missing; wanted: " ++ wanted
field_said (Some d) hint wanted = shown_value d ++ (hint ++ (codes "; wanted: " ++ wanted))

-- whose a field is: that of a row, of a node, or of the file (own)
abbrev pub whose_text : (node row : ℕ) → (name : List ℕ) → List ℕ
whose_text zero r name = []
whose_text (suc n) zero name = codes " of " ++ name
whose_text (suc n) (suc r) name = codes " of row " ++ (decimal (suc r) ++ (codes " of " ++ name))

-- what is found at a place (own)
unfoldable pub finding_at : KeyPlace → (field said : List ℕ) → KeyFinding
finding_at p field said = record {
  node = p.node;
  row = p.row;
  field = field;
  said = whose_text p.node p.row p.name ++ (codes ": " ++ said);
}

-- nothing is found where a field is as it should be, and else this (own)
abbrev pub finding_unless : Bool → KeyPlace → (field said : List ℕ) → List KeyFinding
finding_unless true p field said = []
finding_unless false p field said = finding_at p field said ∷ []
