-- The name that the operator gave a row, in the document that a key file is. Its top is
-- `admin_name`.
use Rattle.std.specs.Prelude.{ℕ, ◌-◌, List, if◌then◌else◌, codes, Option, Some, option_and_then}
use Rattle.std.specs.Prelude.{None}
use Rattle.toml.specs.Data.{Data, array, Items, no_items, item, Members, as_str, at, get}
use Rattle.toml.specs.Data.{get_member}
use Rattle.book_keys.specs.Columns.{is_word}
use Rattle.book_keys.specs.Rows.{Table}

-- a key file as it is read: the document that it is, and the tables that it stands for (own)
pub record KeyFile : Type 0 where
  pub document : Members
  pub tables : List Table

-- the text at a key of a value (own)
abbrev pub text_in : (key : List ℕ) → Data → Option (List ℕ)
text_in key d = option_and_then as_str (get key d)

-- the nodes that stand in a value (own)
abbrev pub nodes_in : Option Data → Items
nodes_in (Some (array ds)) = ds
nodes_in d = no_items

-- the rows of the first of these nodes that has this name (own)
abbrev pub rows_named : (name : List ℕ) → (nodes : Items) → Option Data
rows_named name no_items = None
rows_named name (item d ds) =
    if is_word name (text_in (codes "name") d) then get (codes "key") d else rows_named name ds

-- the AdminKeyName of the row of this number, from 1, of the node of this name (RFC 7210, section
-- 2, and own)
unfoldable pub admin_name : (document : Members) → (name : List ℕ) → ℕ → Option (List ℕ)
admin_name document name n =
    option_and_then (text_in (codes "AdminKeyName")) (option_and_then (at (n - 1))
    (rows_named name (nodes_in (get_member (codes "node") document))))
