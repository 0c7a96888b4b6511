-- What a row is called in a picture, and how wide the longest such name is. Its tops are
-- `named_row` and `picture_width`.
use Rattle.std.specs.Prelude.{ℕ, ◌+◌, ◌*◌, ◌==◌, ◌&&◌, ◌||◌, max, min, nat_lt, List, [], ◌∷◌}
use Rattle.std.specs.Prelude.{◌++◌, length, codes, decimal, Option, Some, None, if◌then◌else◌}
use Rattle.book_keys.specs.Rows.{Row, Table}
use Rattle.book_scope_plan.specs.AdminNames.{KeyFile, admin_name}
use Rattle.toml.specs.Data.{Members}

-- a byte of a name as it is written in a picture, after two others: a question mark for a control
-- character, and the end of U+FFFD for that of U+FFFE and U+FFFF (XML 1.0, section 2.2, own)
abbrev pub written_byte : (one two : ℕ) → (byte : ℕ) → ℕ
written_byte one two b =
    if nat_lt b 32 || (b == 127) then 63
    else if (one == 239) && ((two == 191) && nat_lt 189 b) then 189
    else b

-- bytes of a name as they are written, after these two (own)
abbrev pub written_after : (one two : ℕ) → List ℕ → List ℕ
written_after one two [] = []
written_after one two (b ∷ bs) = written_byte one two b ∷ written_after two b bs

-- the AdminKeyName of a row, whole (RFC 7210, section 2, and own)
unfoldable pub written_name : Option (List ℕ) → List ℕ
written_name None = []
written_name (Some text) = codes " (" ++ (written_after 0 0 text ++ codes ")")

-- the name of a node, the number of a row, and what the document calls it (own)
unfoldable pub named_row : Members → (name : List ℕ) → ℕ → List ℕ
named_row document name n =
    name ++ (codes " row " ++ (decimal n ++ written_name (admin_name document name n)))

-- the greatest length of the names of these rows of a node, the first having number n, where others
-- are so long (own)
abbrev pub longest_row : Members → (name : List ℕ) → (so_far n : ℕ) → List Row → ℕ
longest_row document name so_far n [] = so_far
longest_row document name so_far n (r ∷ rs) =
    longest_row document name (max so_far (length (named_row document name n))) (n + 1) rs

-- the greatest length of the names of the rows of these nodes, where others are so long (own)
abbrev pub longest_name : Members → (so_far : ℕ) → List Table → ℕ
longest_name document so_far [] = so_far
longest_name document so_far (t ∷ ts) =
    longest_name document (longest_row document t.name so_far 1 t.rows) ts

-- how wide a picture is: 800, or so wide that each name of a row has room with what stands after
-- it, 8 for a byte, up to 65,536 bytes (own)
unfoldable pub picture_width : KeyFile → ℕ
picture_width keys = max 800 (200 + 8 * min 65_536 (longest_name keys.document 0 keys.tables))
