-- Where in the text of a key file a field stands (own): the line that begins with its key, behind
-- the headers of its node and its row. A place is told of a plain text alone, which has each header
-- and each field at the front of a line of its own; of any other text none is. Its top is
-- `finding_place`.
use Rattle.std.specs.Prelude.{ℕ, ◌+◌, ◌==◌, nat_le, ◌&&◌, ◌||◌, not, Bool, false, List, [], ◌∷◌}
use Rattle.std.specs.Prelude.{◌≡◌, true, length, ◌++◌, take, drop, cond, codes, decimal}
use Rattle.std.specs.Prelude.{Option, Some, None}
use Rattle.std.specs.Prelude.{if◌then◌else◌}
use Rattle.std.specs.List.{list_all, list_any, position_or_len, prefix_len}
use Rattle.std.specs.Option.{option_or}
use Rattle.std.specs.Str.{bytes_eq}
use Rattle.book_base.specs.Lines.{is_blank, is_newline, lines_of}
use Rattle.book_scope_texts.specs.declared.finding.KeyFinding.{KeyFinding}
use Rattle.book_scope_texts.specs.declared.finding.KeySpot.{KeySpot}
use Rattle.book_scope_texts.specs.declared.finding.TextPlace.{TextPlace}

-- the place in a text past a byte: a newline begins a line (own)
abbrev pub past_byte : TextPlace → ℕ → TextPlace
past_byte p byte =
    if is_newline byte then record { line = p.line + 1; column = 1 }
    else record { line = p.line; column = p.column + 1 }

-- the place in a text past some bytes (own)
unfoldable pub place_past : TextPlace → List ℕ → TextPlace
place_past p [] = p
place_past p (b ∷ bs) = place_past (past_byte p b) bs

-- the place of the byte with this index of a text, its line and column counted from 1 (own)
unfoldable pub text_place : ℕ → List ℕ → TextPlace
text_place i text = place_past (record { line = 1; column = 1 }) (take i text)

-- a place in a text (own)
unfoldable pub place_text : TextPlace → List ℕ
place_text p =
    codes "line " ++ (decimal p.line ++ (codes ", column " ++ (decimal p.column ++ codes ": ")))

-- a line without the blanks in front of it (own)
abbrev pub without_blanks : List ℕ → List ℕ
without_blanks line = drop (prefix_len is_blank line) line

-- the byte ends a key: a blank, an equals sign or a number sign (own)
abbrev pub ends_key : ℕ → Bool
ends_key byte = is_blank byte || (byte == 0x3d || byte == 0x23)

-- how many bytes the key has with which a text begins (own)
abbrev pub line_key_length : List ℕ → ℕ
line_key_length text = position_or_len ends_key text

-- the key of a line: what it begins with, up to a blank, an equals sign or a comment (own)
unfoldable pub line_key : List ℕ → List ℕ
line_key line = take (line_key_length (without_blanks line)) (without_blanks line)

-- what stands behind the key of a line (own)
abbrev pub behind_key : List ℕ → List ℕ
behind_key line =
    without_blanks (drop (line_key_length (without_blanks line)) (without_blanks line))

-- the byte may stand in a key without quotes (own)
abbrev pub is_bare : ℕ → Bool
is_bare byte =
    (nat_le 0x30 byte && nat_le byte 0x39) || ((nat_le 0x41 byte && nat_le byte 0x5a)
    || ((nat_le 0x61 byte && nat_le byte 0x7a) || (byte == 0x2d || byte == 0x5f)))

-- a key is the header of a node or a row (own)
abbrev pub is_header : (key : List ℕ) → Bool
is_header key = bytes_eq key (codes "[[node]]") || bytes_eq key (codes "[[node.key]]")

-- a text begins with a byte (own)
abbrev pub begins_with : (byte : ℕ) → List ℕ → Bool
begins_with byte [] = false
begins_with byte (b ∷ text) = b == byte

-- a key begins as a line does that goes on with an array: a quote, a comma or a bracket (own)
abbrev pub is_item : (key : List ℕ) → Bool
is_item key =
    begins_with 0x22 key || (begins_with 0x27 key || (begins_with 0x2c key || begins_with 0x5d key))

-- three of a byte stand side by side in a text, behind so many of them (own)
abbrev pub has_three : (byte seen : ℕ) → List ℕ → Bool
has_three byte n [] = false
has_three byte n (b ∷ text) =
    cond (b == byte) (nat_le 2 n || has_three byte (n + 1) text) (has_three byte 0 text)

-- no table in braces begins in a line, and no text of three quotes (own)
abbrev pub has_no_opening : List ℕ → Bool
has_no_opening line =
    not (list_any (λ b. b == 0x7b) line || (has_three 0x22 0 line || has_three 0x27 0 line))

-- a line of this key is a header, a field, or more of an array (own)
abbrev pub is_plain_key : (key : List ℕ) → (line : List ℕ) → Bool
is_plain_key key line =
    is_header key || ((list_all is_bare key && begins_with 0x3d (behind_key line))
    || (is_item key && not (list_any (λ b. b == 0x3d) line)))

-- a line is empty or a comment, or it is plain (own)
unfoldable pub is_plain_line : List ℕ → Bool
is_plain_line line =
    bytes_eq (line_key line) [] || (has_no_opening line && is_plain_key (line_key line) line)

-- each header and each field of a text stands at the front of a line of its own (own)
unfoldable pub is_plain_text : List ℕ → Bool
is_plain_text text = list_all is_plain_line (lines_of text)

-- the node and the row to which a line belongs, by those of the line before and by its key: a
-- header begins a node or a row (own)
unfoldable pub spot_past : KeySpot → (key : List ℕ) → KeySpot
spot_past s key =
    if bytes_eq key (codes "[[node]]") then record { node = s.node + 1; row = 0 }
    else if bytes_eq key (codes "[[node.key]]") then record { node = s.node; row = s.row + 1 }
    else s

-- the node and the row of the last of some lines, by those of the line before them (own)
abbrev pub spots_past : KeySpot → (lines : List (List ℕ)) → KeySpot
spots_past s [] = s
spots_past s (l ∷ ls) = spots_past (spot_past s (line_key l)) ls

-- a line of this spot and key is one that is looked for: a header, or a field (own)
abbrev pub is_spot :
    (wanted : KeySpot) → (field : Option (List ℕ)) → KeySpot → (key : List ℕ) → Bool
is_spot w None s key = ((s.node == w.node) && (s.row == w.row)) && is_header key
is_spot w (Some field) s key = ((s.node == w.node) && (s.row == w.row)) && bytes_eq key field

-- the header of a spot, or its first line with a key, behind lines up to this number and spot (own)
unfoldable pub place_among :
    (wanted : KeySpot) → (field : Option (List ℕ)) → (number : ℕ) → KeySpot →
    (lines : List (List ℕ)) → Option TextPlace
place_among w field n s [] = None
place_among w field n s (l ∷ ls) =
    if is_spot w field (spot_past s (line_key l)) (line_key l)
    then Some (record { line = n + 1; column = prefix_len is_blank l + 1 })
    else place_among w field (n + 1) (spot_past s (line_key l)) ls

-- the place of the header of a spot, or of a key there (own)
unfoldable pub spot_place :
    (wanted : KeySpot) → (field : Option (List ℕ)) → (text : List ℕ) → Option TextPlace
spot_place w field text =
    place_among w field 0 (record { node = 0; row = 0 }) (lines_of text)

-- the spot of a finding (own)
abbrev pub finding_spot : KeyFinding → KeySpot
finding_spot f = record { node = f.node; row = f.row }

-- a key is this field, or a header (own)
abbrev pub is_field_or_header : (field key : List ℕ) → Bool
is_field_or_header field key = bytes_eq key field || is_header key

-- the place of a finding in a plain text: that of its key, or of the header of its row or node
-- (own)
abbrev pub plain_place : List ℕ → KeyFinding → Option TextPlace
plain_place text f =
    option_or (spot_place (finding_spot f) (Some f.field) text)
    (spot_place (finding_spot f) None text)

-- the place of a finding, where the text is plain and the key needs no quotes (own)
unfoldable pub finding_place : List ℕ → KeyFinding → Option TextPlace
finding_place text f =
    if is_plain_text text && list_all is_bare f.field then plain_place text f else None

-- the place of a finding is a line of a plain text, among the others: it belongs to the node and
-- the row of the finding, and its key is that of the finding, or it is their header (own)
pub record IsPlaceOf (text : List ℕ) (f : KeyFinding) (p : TextPlace) : Type 0 where
  pub front : List (List ℕ)
  pub line : List ℕ
  pub more : List (List ℕ)
  pub plain : is_plain_text text ≡ true
  pub lines : lines_of text ≡ front ++ line ∷ more
  pub number : p.line ≡ length front + 1
  pub column : p.column ≡ prefix_len is_blank line + 1
  pub spot : spots_past (record { node = 0; row = 0 }) (front ++ line ∷ []) ≡ finding_spot f
  pub is : is_field_or_header f.field (line_key line) ≡ true

-- a place, where it is found (own)
abbrev pub place_if : Option TextPlace → List ℕ
place_if None = []
place_if (Some p) = place_text p

-- the line of a finding in a text (own)
unfoldable pub key_finding_line : List ℕ → KeyFinding → List ℕ
key_finding_line text f = place_if (finding_place text f) ++ (f.field ++ (f.said ++ 10 ∷ []))
