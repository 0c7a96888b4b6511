-- Which finding of a key file tells what its fault does (own): `IsFindingOf` is the file's top.
use Rattle.std.specs.Prelude.{◌≡◌, ℕ, zero, suc, ◌-◌, not, ◌++◌, List, [], ◌∷◌, codes}
use Rattle.std.specs.Prelude.{Option, Some, None, option_and_then, option_map, unwrap_or}
use Rattle.std.specs.List.{find, list_any}
use Rattle.std.specs.Str.{bytes_eq}
use Rattle.toml.specs.Data.{Data, table, Members, get_member, at}
use Rattle.book_keys.specs.Columns.{row_keys}
use Rattle.book_keys.specs.declared.fault.Column.{Column}
use Rattle.book_keys.specs.declared.fault.Column.TheVariants as column
use Rattle.book_keys.specs.declared.fault.TableFault.{TableFault}
use Rattle.book_keys.specs.declared.fault.TableFault.TheVariants as fault
use Rattle.book_cmd_link.specs.KeyTexts.{column_text}
use Rattle.book_scope_texts.specs.declared.finding.KeyFinding.{KeyFinding}
use Rattle.book_scope_texts.specs.FieldTexts.{text_shown, whose_text}
use Rattle.book_scope_texts.specs.FileFindings.{node_data, node_keys, overlap_said}
use Rattle.book_scope_texts.specs.RowFindings.{keys_in}

-- the row of this number, from 1, of the node that a value is (own)
abbrev pub row_data : ℕ → Option Data → Option Data
row_data r (Some (table ms)) = option_and_then (at (r - 1)) (get_member (codes "key") ms)
row_data r _ = None

-- the value of `node` in a document, if one (own)
abbrev pub nodes_value : Option Members → Option Data
nodes_value document = option_and_then (get_member (codes "node")) document

-- the value at a place of a document: the document itself, a node, or one of its rows (own)
abbrev pub value_at : Option Members → (node row : ℕ) → Option Data
value_at document zero r = option_map table document
value_at document (suc n) zero = node_data (suc n) (nodes_value document)
value_at document (suc n) (suc r) = row_data (suc r) (node_data (suc n) (nodes_value document))

-- the keys of a value that is a table, in its order (own)
abbrev pub value_keys : Option Data → List (List ℕ)
value_keys (Some (table ms)) = keys_in ms
value_keys _ = []

-- the keys that are known at a place: those of a document, of a node or of a row (own)
abbrev pub known_keys : (node row : ℕ) → List (List ℕ)
known_keys zero r = codes "node" ∷ []
known_keys (suc n) zero = node_keys
known_keys (suc n) (suc r) = row_keys

-- the key under which a file has the tables at a place: its nodes, and the rows of a node (own)
abbrev pub table_key : (node row : ℕ) → List ℕ
table_key (suc n) (suc r) = codes "key"
table_key n r = codes "node"

-- the first of these keys that isn't known, as a finding shows it, or else this field (own)
abbrev pub other_field : (known : List (List ℕ)) → (own : List ℕ) → List (List ℕ) → List ℕ
other_field known own keys =
    unwrap_or (option_map text_shown (find (λ key. not (list_any (bytes_eq key) known)) keys)) own

-- how a finding calls the field of a column: by the column's name, which is its key, where `Other`
-- stands for this field (RFC 7210, section 2, and own)
abbrev pub column_field : (other : List ℕ) → Column → List ℕ
column_field other column.Other = other
column_field other c = column_text c

-- how a finding calls the field of a column at a place: `Other` stands for a key that isn't known
-- there, or for a value that is no table (own)
abbrev pub field_name : Option Members → (node row : ℕ) → Column → List ℕ
field_name document n r c =
    column_field
    (other_field (known_keys n r) (table_key n r) (value_keys (value_at document n r))) c

-- a finding is of this field of a row, of a node where the row is 0, or of the file (own)
pub record IsOfField (f : KeyFinding) (n r : ℕ) (name : List ℕ) : Type 0 where
  pub node : f.node ≡ n
  pub row : f.row ≡ r
  pub field : f.field ≡ name

-- a finding says that a row, of a node that is called by some name, overlaps this one (own)
abbrev pub SaysOverlap : KeyFinding → (node row other : ℕ) → Type 0
SaysOverlap f n s r =
    (name : List ℕ) × (f.said ≡ whose_text n s name ++ (codes ": " ++ overlap_said r))

-- the key of what there are too many of: the nodes of the file, or the rows of a node (own)
abbrev pub counted_key : ℕ → List ℕ
counted_key zero = codes "node"
counted_key (suc n) = codes "key"

-- a finding of a document, if the text is one, tells what a fault does: the same node, row and
-- column; that there are too many nodes, or rows of the node; that the second row overlaps the
-- first; or that the text is no TOML (own)
abbrev pub IsFindingOf : Option Members → TableFault → KeyFinding → Type 0
IsFindingOf document fault.Memory f = ⊥
IsFindingOf document fault.Syntax f =
    IsOfField f 0 0 (codes "file") × (f.said ≡ codes ": no TOML")
IsFindingOf document (fault.Field n r c) f = IsOfField f n r (field_name document n r c)
IsFindingOf document (fault.TooMany n) f = IsOfField f n 0 (counted_key n)
IsFindingOf document (fault.Overlap n r s) f = IsOfField f n s (codes "key") × SaysOverlap f n s r

-- there are findings, and this holds of the first (own)
abbrev pub BeginsWith : (KeyFinding → Type 0) → List KeyFinding → Type 0
BeginsWith P [] = ⊥
BeginsWith P (f ∷ fs) = P f
