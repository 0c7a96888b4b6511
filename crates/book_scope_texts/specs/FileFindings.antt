-- What is found wrong with a key file, and what is written of it. Our own format. Its tops are
-- `key_findings` and `key_report`.
use Rattle.std.specs.Prelude.{ℕ, ◌+◌, ◌-◌, nat_le, ◌++◌, Bool, true, false, List, [], ◌∷◌, length}
use Rattle.std.specs.Prelude.{codes, decimal, flat_map, map}
use Rattle.std.specs.Prelude.{Option, Some, None, is_some, option_and_then, option_to_list}
use Rattle.std.specs.Prelude.{Result, Ok, Err, if◌then◌else◌}
use Rattle.toml.specs.Data.{Data, array, table, Items, no_items, item, at}
use Rattle.toml.specs.Data.{Members, get_member}
use Rattle.book_base.specs.declared.address.Address.{Address}
use Rattle.book_base.specs.declared.address.Address.TheVariants.{V4}
use Rattle.book_keys.specs.Columns.{text_of, count}
use Rattle.book_keys.specs.declared.fault.TableFault.{TableFault}
use Rattle.book_keys.specs.declared.fault.TableFault.TheVariants as fault
use Rattle.book_keys.specs.Nodes.{node_name_of, node_address_of, document_of, tables_of}
use Rattle.book_keys.specs.Rows.{Table, node_limit, row_limit}
use Rattle.book_scope_texts.specs.declared.finding.KeyFinding.{KeyFinding}
use Rattle.book_scope_texts.specs.declared.finding.KeyPlace.{KeyPlace}
use Rattle.book_scope_texts.specs.declared.finding.TomlFault.{TomlFault}
use Rattle.book_scope_texts.specs.FieldTexts.{field_said, finding_at, hidden_said, text_shown}
use Rattle.book_scope_texts.specs.Places.{key_finding_line, place_text, text_place}
use Rattle.book_scope_texts.specs.RowFindings.{address_hint_of, keys_in, unknown_findings, field_at}
use Rattle.book_scope_texts.specs.RowFindings.{field_unless}
use Rattle.book_scope_texts.specs.RowFindings.{count_said, row_findings}
use Rattle.book_scope_texts.specs.TomlFaults.{toml_fault_text}

-- a place of a key file (own)
abbrev pub key_place : (node row : ℕ) → (name : List ℕ) → KeyPlace
key_place n r name = record { node = n; row = r; name = name }

-- the place of the file itself (own)
abbrev pub file_place : KeyPlace
file_place = key_place 0 0 []

-- the table of a node of this name, and of one of this address; nothing else of them is looked at
-- (own)
abbrev pub table_named : List ℕ → Table
table_named name = record { name = name; address = V4 (0 ∷ 0 ∷ 0 ∷ 0 ∷ []); rows = [] }

-- a table of this address, without rows, so that addresses are looked for among tables (own)
abbrev pub bare_table : Address → Table
bare_table address = record { name = []; address = address; rows = [] }

-- the name of a node, which none of the earlier names is (own)
abbrev pub new_name : (names : List (List ℕ)) → Members → Option (List ℕ)
new_name names ms =
    option_and_then (node_name_of (map table_named names)) (text_of (codes "name") ms)

-- the address of a node, which none of the earlier addresses is (own)
abbrev pub new_address : List Address → Members → Option Address
new_address seen ms =
    option_and_then (node_address_of (map bare_table seen)) (text_of (codes "address") ms)

-- that a value would be one, had no earlier node the same (own)
abbrev pub used_hint : Bool → List ℕ
used_hint used = if used then codes ", which an earlier node has" else []

-- the name of a node (own)
unfoldable pub node_name_findings : KeyPlace → (names : List (List ℕ)) → Members → List KeyFinding
node_name_findings p names ms =
    field_unless (is_some (new_name names ms)) (field_at p (codes "name") ms)
    (used_hint (is_some (new_name [] ms))) (codes "a text of 1 to 64 printed bytes without a space")

-- the address of a node (own)
unfoldable pub node_address_findings : KeyPlace → List Address → Members → List KeyFinding
node_address_findings p seen ms =
    field_unless (is_some (new_address seen ms)) (field_at p (codes "address") ms)
    (used_hint (is_some (new_address [] ms))
    ++ address_hint_of (get_member (codes "address") ms))
    (codes "a text, an address, 192.0.2.1 or 32 hexadecimal digits")

-- the rows from number r on of a node of this number and name (own)
abbrev pub rows_findings_from : (node row : ℕ) → (name : List ℕ) → Items → List KeyFinding
rows_findings_from n r name no_items = []
rows_findings_from n r name (item d ds) =
    row_findings (key_place n r name) d ++ rows_findings_from n (r + 1) name ds

-- what is wanted of the rows of a node (own)
abbrev pub rows_wanted : List ℕ
rows_wanted = codes "at most 64 tables, [[node.key]]"

-- the rows of a node (own)
unfoldable pub rows_findings : (node : ℕ) → (name : List ℕ) → Option Data → List KeyFinding
rows_findings n name None = []
rows_findings n name (Some (array ds)) =
    if nat_le (count ds) row_limit then rows_findings_from n 1 name ds
    else finding_at (key_place n 0 name) (codes "key") (count_said (count ds) rows_wanted) ∷ []
rows_findings n name (Some d) =
    finding_at (key_place n 0 name) (codes "key") (hidden_said (Some d) rows_wanted) ∷ []

-- the keys of a node (own)
abbrev pub node_keys : List (List ℕ)
node_keys = codes "name" ∷ codes "address" ∷ codes "key" ∷ []

-- how a node of this number is called where it has this name (own)
abbrev pub called_by : ℕ → Option (List ℕ) → List ℕ
called_by n None = codes "node " ++ decimal n
called_by n (Some text) = text_shown text

-- how a node of this number is called (own)
unfoldable pub node_called : ℕ → Members → List ℕ
node_called n ms = called_by n (text_of (codes "name") ms)

-- what is found in a node of this number, so called, after nodes of these names and addresses (own)
unfoldable pub node_fields_findings :
    ℕ → (name : List ℕ) → (names : List (List ℕ)) → List Address → Members → List KeyFinding
node_fields_findings n name names seen ms =
    unknown_findings node_keys (key_place n 0 name) (keys_in ms)
    ++ (node_name_findings (key_place n 0 name) names ms
    ++ (node_address_findings (key_place n 0 name) seen ms
    ++ rows_findings n name (get_member (codes "key") ms)))

-- what is found in the value of a node (own)
unfoldable pub node_findings :
    ℕ → (names : List (List ℕ)) → List Address → Data → List KeyFinding
node_findings n names seen (table ms) = node_fields_findings n (node_called n ms) names seen ms
node_findings n names seen d =
    finding_at (key_place n 0 (called_by n None)) (codes "node")
    (field_said (Some d) [] (codes "a table, [[node]]")) ∷ []

-- the names so far, and that of a further node (own)
abbrev pub names_with : (names : List (List ℕ)) → Data → List (List ℕ)
names_with names (table ms) = names ++ option_to_list (new_name names ms)
names_with names d = names

-- the addresses so far, and that of a further node (own)
abbrev pub addresses_with : List Address → Data → List Address
addresses_with seen (table ms) = seen ++ option_to_list (new_address seen ms)
addresses_with seen d = seen

-- what is found in the nodes from number n on, after nodes of these names and addresses (own)
unfoldable pub nodes_findings_from :
    ℕ → (names : List (List ℕ)) → List Address → Items → List KeyFinding
nodes_findings_from n names seen no_items = []
nodes_findings_from n names seen (item d ds) =
    node_findings n names seen d
    ++ nodes_findings_from (n + 1) (names_with names d) (addresses_with seen d) ds

-- what is wanted of the nodes of a file (own)
abbrev pub nodes_wanted : List ℕ
nodes_wanted = codes "at most 16 tables, [[node]]"

-- what is found in the value of `node` (own)
unfoldable pub nodes_findings : Option Data → List KeyFinding
nodes_findings None = []
nodes_findings (Some (array ds)) =
    if nat_le (count ds) node_limit then nodes_findings_from 1 [] [] ds
    else finding_at file_place (codes "node") (count_said (count ds) nodes_wanted) ∷ []
nodes_findings (Some d) =
    finding_at file_place (codes "node") (field_said (Some d) [] nodes_wanted) ∷ []

-- what is found in the fields of a document (own)
unfoldable pub field_findings : Members → List KeyFinding
field_findings ms =
    unknown_findings (codes "node" ∷ []) file_place (keys_in ms)
    ++ nodes_findings (get_member (codes "node") ms)

-- the node of this number, among those of a value (own)
abbrev pub node_data : ℕ → Option Data → Option Data
node_data n d = option_and_then (at (n - 1)) d

-- how a node is called, by its value (own)
abbrev pub data_called : ℕ → Option Data → List ℕ
data_called n (Some (table ms)) = node_called n ms
data_called n d = called_by n None

-- two rows of a node overlap (RFC 7210, section 3, and own)
unfoldable pub overlap_said : ℕ → List ℕ
overlap_said r =
    codes "overlaps row " ++ (decimal r
    ++ codes ": at some time both send, or both accept, for one peer under one KeyID")

-- what is found of a file that is refused though none of its fields is: the two rows that overlap
-- (own)
abbrev pub refused_findings : Members → Result (List Table) TableFault → List KeyFinding
refused_findings ms (Ok tables) = []
refused_findings ms (Err (fault.Overlap n r s)) =
    finding_at (key_place n s (data_called n (node_data n (get_member (codes "node") ms))))
    (codes "key") (overlap_said r) ∷ []
refused_findings ms (Err e) = finding_at file_place (codes "file") (codes "refused") ∷ []

-- the first findings, or the further ones where there is none (own)
abbrev pub first_or_further : (first further : List KeyFinding) → List KeyFinding
first_or_further [] further = further
first_or_further (f ∷ fs) further = f ∷ fs

-- what is found in bytes that are this document, if one (own)
abbrev pub document_findings : List ℕ → Option Members → List KeyFinding
document_findings text None = finding_at file_place (codes "file") (codes "no TOML") ∷ []
document_findings text (Some ms) =
    first_or_further (field_findings ms) (refused_findings ms (tables_of text))

-- what is found wrong with a key file (own)
unfoldable pub key_findings : List ℕ → List KeyFinding
key_findings text = document_findings text (document_of text)

-- the line of a text that is no TOML from the byte with this index on, for this reason (own)
unfoldable pub syntax_line : ℕ → TomlFault → List ℕ → List ℕ
syntax_line i why text =
    place_text (text_place i text)
    ++ (codes "no TOML from here on: " ++ (toml_fault_text why ++ codes "\n"))

-- how many rows tables have (own)
abbrev pub row_total : List Table → ℕ
row_total [] = 0
row_total (t ∷ ts) = length t.rows + row_total ts

-- the line of a file without a fault (own)
unfoldable pub no_faults_line : List Table → List ℕ
no_faults_line tables =
    codes "no faults: " ++ (decimal (length tables) ++ (codes " nodes, "
    ++ (decimal (row_total tables) ++ codes " rows\n")))

-- the line of a file without a node, which is of no use (own)
abbrev pub no_nodes_line : List ℕ
no_nodes_line = codes "no nodes: a key file has a table, [[node]], for each router\n"

-- the line of a file that is read (own)
abbrev pub tables_line : List Table → List ℕ
tables_line [] = no_nodes_line
tables_line (t ∷ ts) = no_faults_line (t ∷ ts)

-- a key file is read, and has a node (own)
abbrev pub has_nodes : Result (List Table) TableFault → Bool
has_nodes (Ok (t ∷ ts)) = true
has_nodes _ = false

-- what is written of a key file that stands for these tables, or has this fault; where it is no
-- TOML, it is none from the byte with an index on, for a reason (own)
abbrev pub key_report_of :
    ℕ → TomlFault → List ℕ → Result (List Table) TableFault → List ℕ
key_report_of i why text (Ok tables) = tables_line tables
key_report_of i why text (Err fault.Syntax) = syntax_line i why text
key_report_of i why text (Err e) = flat_map (key_finding_line text) (key_findings text)

-- what is written of a key file; where it is no TOML, it is none from the byte with an index on,
-- for a reason (own)
unfoldable pub key_report : ℕ → TomlFault → List ℕ → List ℕ
key_report i why text = key_report_of i why text (tables_of text)
