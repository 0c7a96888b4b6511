-- The nodes of a document, and the tables that a text stands for (own): `tables_of` is the file's
-- top.
use Rattle.std.specs.Prelude.{ℕ, ◌+◌, ◌&&◌, nat_le, if◌then◌else◌, Bool}
use Rattle.std.specs.Prelude.{List, [], ◌∷◌, ◌++◌, length, codes}
use Rattle.std.specs.Prelude.{Option, Some, None, option_and_then, Result, Ok, Err}
use Rattle.std.specs.List.{list_any, list_all}
use Rattle.std.specs.Str.{bytes_eq, is_utf8}
use Rattle.toml.specs.Data.{Data, array, table, Items, no_items, item, Members, get_member}
use Rattle.toml.specs.Parse.{parse_document}
use Rattle.book_base.specs.declared.address.Address.{Address}
use Rattle.book_base.specs.Addresses.{address_of}
use Rattle.book_keys.specs.Rows.{Row, Table, node_limit, row_limit, has_address}
use Rattle.book_keys.specs.Overlaps.{TwoRows, first_overlap}
use Rattle.book_keys.specs.declared.fault.Column.TheVariants as column
use Rattle.book_keys.specs.declared.fault.TableFault.{TableFault}
use Rattle.book_keys.specs.declared.fault.TableFault.TheVariants as fault
use Rattle.book_keys.specs.Reading.{each}
use Rattle.book_base.specs.Results.{◌>>=◌, or_fault}
use Rattle.book_keys.specs.Columns.{text_of, only, count, row_of}

-- a byte is printed and no space: from ! to ~ (own)
abbrev pub is_visible : ℕ → Bool
is_visible byte = nat_le 0x21 byte && nat_le byte 0x7e

-- how many bytes the name of a node has at most (own)
abbrev pub longest_node_name : ℕ
longest_node_name = 64

-- the name of a node that a text writes: at least one byte and at most 64, all printed, and no
-- earlier node has it (own)
abbrev pub node_name_of : List Table → List ℕ → Option (List ℕ)
node_name_of seen text =
    if (nat_le 1 (length text) && nat_le (length text) longest_node_name)
    && list_all is_visible text
    then (if list_any (λ t. bytes_eq t.name text) seen then None else Some text)
    else None

-- an address, where there is one and no earlier node has it (own)
abbrev pub unused : List Table → Option Address → Option Address
unused seen None = None
unused seen (Some address) =
    if list_any (has_address address) seen then None else Some address

-- the address of a node that a text writes, which no earlier node has (own)
abbrev pub node_address_of : List Table → List ℕ → Option Address
node_address_of seen text = unused seen (address_of text)

-- the rows of node n: an array of at most 64, or none (own)
unfoldable pub rows_of : ℕ → Option Data → Result (List Row) TableFault
rows_of n None = Ok []
rows_of n (Some (array ds)) =
    if nat_le (count ds) row_limit then each (row_of n) 1 ds else Err (fault.TooMany n)
rows_of n (Some _) = Err (fault.Field n 0 column.Rows)

-- node n, after those that were seen, by its fields in order, each with its own fault (own)
unfoldable pub fields_of : ℕ → List Table → Members → Result Table TableFault
fields_of n seen ms = do
  name ← or_fault (option_and_then (node_name_of seen) (text_of (codes "name") ms))
      (fault.Field n 0 column.Name)
  address ← or_fault (option_and_then (node_address_of seen) (text_of (codes "address") ms))
      (fault.Field n 0 column.Address)
  rows ← rows_of n (get_member (codes "key") ms)
  Ok (record { name = name; address = address; rows = rows })

-- node n, after those that were seen: a table without another key (own)
unfoldable pub node_of : ℕ → List Table → Data → Result Table TableFault
node_of n seen (table ms) =
    if only (codes "name" ∷ codes "address" ∷ codes "key" ∷ []) ms then fields_of n seen ms
    else Err (fault.Field n 0 column.Other)
node_of n seen _ = Err (fault.Field n 0 column.Other)

-- the nodes from number n on, after those that were seen (own)
unfoldable pub nodes_from : ℕ → List Table → Items → Result (List Table) TableFault
nodes_from n seen no_items = Ok seen
nodes_from n seen (item d ds) =
    node_of n seen d >>= λ t. nodes_from (n + 1) (seen ++ t ∷ []) ds

-- the overlap of node n as a fault, else that of a later node (own)
abbrev pub overlap_of : ℕ → Option TwoRows → Option TableFault → Option TableFault
overlap_of n None more = more
overlap_of n (Some two) more = Some (fault.Overlap n two.first two.second)

-- the least node with rows that overlap, the first node having number n, and its least two rows
-- (own)
unfoldable pub overlap_in : ℕ → List Table → Option TableFault
overlap_in n [] = None
overlap_in n (t ∷ ts) = overlap_of n (first_overlap 1 t.rows) (overlap_in (n + 1) ts)

-- the tables, unless there is a fault (own)
abbrev pub unless : Option TableFault → List Table → Result (List Table) TableFault
unless None tables = Ok tables
unless (Some e) tables = Err e

-- the tables that the value of `node` stands for: at most 16 nodes, of which no two rows of one
-- overlap (own)
unfoldable pub nodes_of : Option Data → Result (List Table) TableFault
nodes_of None = Ok []
nodes_of (Some (array ds)) =
    if nat_le (count ds) node_limit
    then (nodes_from 1 [] ds >>= λ tables. unless (overlap_in 1 tables) tables)
    else Err (fault.TooMany 0)
nodes_of (Some _) = Err (fault.Field 0 0 column.Other)

-- the tables of a document without another key than `node`; no document is a fault of syntax (own)
unfoldable pub tables_of_document : Option Members → Result (List Table) TableFault
tables_of_document None = Err fault.Syntax
tables_of_document (Some ms) =
    if only (codes "node" ∷ []) ms then nodes_of (get_member (codes "node") ms)
    else Err (fault.Field 0 0 column.Other)

-- the document that bytes are: none where they aren't UTF-8 or aren't TOML (own)
abbrev pub document_of : List ℕ → Option Members
document_of text = if is_utf8 text then parse_document text else None

-- the most bytes of a key file: 2^20 (own)
abbrev pub most_keys : ℕ
most_keys = 1048576

-- the tables that a key file stands for, or the first fault of the walk (RFC 7210, section 2, in
-- this profile)
unfoldable pub tables_of : List ℕ → Result (List Table) TableFault
tables_of text = tables_of_document (document_of text)
