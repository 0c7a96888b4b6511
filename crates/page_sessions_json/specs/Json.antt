-- Texts in JSON (RFC 8259): strings, arrays and objects. Numbers are decimal, without a sign.
use Rattle.std.specs.Prelude.{ℕ, ◌==◌, ◌||◌, nat_lt, Bool, true, false, List, [], ◌∷◌, ◌++◌, codes}
use Rattle.std.specs.Prelude.{flat_map, if◌then◌else◌}
use Rattle.book_base.specs.Hexadecimal.{hex_of}

-- a byte as it is written in a string: a quotation mark and a backslash behind a backslash, a
-- control character by its number (RFC 8259, section 7)
abbrev pub json_byte : ℕ → List ℕ
json_byte b =
    if b == 34 || b == 92 then 92 ∷ b ∷ []
    else if nat_lt b 32 then codes "\\u00" ++ hex_of (b ∷ [])
    else b ∷ []

-- a string (RFC 8259, section 7)
unfoldable pub json_string : List ℕ → List ℕ
json_string text = 34 ∷ (flat_map json_byte text ++ 34 ∷ [])

-- what stands in front of a value: nothing where it is the first, else a comma (RFC 8259, sections
-- 4 and 5)
abbrev pub json_comma : (first : Bool) → List ℕ
json_comma first = if first then [] else 44 ∷ []

-- values, a comma between each two; behind others also one in front (RFC 8259, sections 4 and 5)
abbrev pub json_items : (first : Bool) → List (List ℕ) → List ℕ
json_items first [] = []
json_items first (x ∷ xs) = json_comma first ++ (x ++ json_items false xs)

-- an array (RFC 8259, section 5)
abbrev pub json_array : List (List ℕ) → List ℕ
json_array values = 91 ∷ (json_items true values ++ 93 ∷ [])

-- the name of a member of an object (RFC 8259, section 4)
unfoldable pub json_name : List ℕ → List ℕ
json_name name = json_string name ++ 58 ∷ []

-- a member of an object: its name and the text of its value (RFC 8259, section 4)
abbrev pub json_member : (name value : List ℕ) → List ℕ
json_member name value = json_name name ++ value

-- an object (RFC 8259, section 4)
abbrev pub json_object : (members : List (List ℕ)) → List ℕ
json_object members = 123 ∷ (json_items true members ++ 125 ∷ [])

-- a truth value (RFC 8259, section 3)
abbrev pub json_bool : Bool → List ℕ
json_bool value = if value then codes "true" else codes "false"

-- the value that says that there is none (RFC 8259, section 3)
abbrev pub json_null : List ℕ
json_null = codes "null"
