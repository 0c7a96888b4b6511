-- What is written of a key file: its fault, and its rows with their state at a time. Our own
-- format. Its top is `keys_text`.
use Rattle.std.specs.Prelude.{ℕ, suc, Bool, List, [], ◌∷◌, ◌++◌, ◌&&◌, codes, decimal}
use Rattle.std.specs.Prelude.{if◌then◌else◌}
use Rattle.book_base.specs.Addresses.{address_text}
use Rattle.book_base.specs.Algorithms.{name_of}
use Rattle.book_keys.specs.declared.direction.Direction.{Direction}
use Rattle.book_keys.specs.declared.direction.Direction.TheVariants.{Receive, Send, Both, Disabled}
use Rattle.book_keys.specs.declared.fault.Column.{Column}
use Rattle.book_keys.specs.declared.fault.Column.TheVariants as column
use Rattle.book_keys.specs.declared.fault.TableFault.{TableFault}
use Rattle.book_keys.specs.declared.fault.TableFault.TheVariants as fault
use Rattle.book_keys.specs.Lifetimes.{contains}
use Rattle.book_keys.specs.Rows.{Row, Table, receives, sends}
use Rattle.book_lines.specs.Texts.{line_text}

-- the name of a column (RFC 7210, section 2, and own)
abbrev pub column_text : Column → List ℕ
column_text column.Other = codes "other"
column_text column.Name = codes "name"
column_text column.Address = codes "address"
column_text column.Rows = codes "key"
column_text column.AdminKeyName = codes "AdminKeyName"
column_text column.LocalKeyName = codes "LocalKeyName"
column_text column.PeerKeyName = codes "PeerKeyName"
column_text column.Peers = codes "Peers"
column_text column.Interfaces = codes "Interfaces"
column_text column.Protocol = codes "Protocol"
column_text column.ProtocolSpecificInfo = codes "ProtocolSpecificInfo"
column_text column.Kdf = codes "KDF"
column_text column.AlgId = codes "AlgID"
column_text column.Key = codes "Key"
column_text column.Direction = codes "Direction"
column_text column.SendLifetimeStart = codes "SendLifetimeStart"
column_text column.SendLifetimeEnd = codes "SendLifetimeEnd"
column_text column.AcceptLifetimeStart = codes "AcceptLifetimeStart"
column_text column.AcceptLifetimeEnd = codes "AcceptLifetimeEnd"
column_text column.LocalPort = codes "LocalPort"
column_text column.PeerPort = codes "PeerPort"

-- the words for the fault of a key file; want of memory is the fault of no file (own)
abbrev pub table_fault_texts : TableFault → List (List ℕ)
table_fault_texts fault.Memory = []
table_fault_texts fault.Syntax = codes "syntax" ∷ []
table_fault_texts (fault.Field n r c) =
    codes "node" ∷ decimal n ∷ codes "row" ∷ decimal r ∷ codes "column" ∷ column_text c ∷ []
table_fault_texts (fault.TooMany n) = codes "too many in node" ∷ decimal n ∷ []
table_fault_texts (fault.Overlap n r s) =
    codes "overlap node" ∷ decimal n ∷ codes "rows" ∷ decimal r ∷ decimal s ∷ []

-- the line of the fault of a key file (own)
abbrev pub table_fault_line : TableFault → List ℕ
table_fault_line f = line_text (codes "keys:" ∷ table_fault_texts f)

-- the word for a Direction, as a key file writes it (RFC 7210, section 2)
abbrev pub direction_text : Direction → List ℕ
direction_text Receive = codes "in"
direction_text Send = codes "out"
direction_text Both = codes "both"
direction_text Disabled = codes "disabled"

-- the word that says whether something holds (own)
abbrev pub yes_or_no : Bool → List ℕ
yes_or_no holds = if holds then codes "yes" else codes "no"

-- the line of a row: its ids, algorithm and direction, and whether it sends and accepts at a
-- time, whatever the pair (RFC 7210, section 3)
abbrev pub row_line : (time number : ℕ) → Row → List ℕ
row_line time n r =
    line_text (codes "row" ∷ decimal n
    ∷ codes "send-id" ∷ decimal r.send_id ∷ codes "recv-id" ∷ decimal r.recv_id
    ∷ name_of r.algorithm ∷ direction_text r.direction
    ∷ codes "sending" ∷ yes_or_no (sends r.direction && contains r.sending time)
    ∷ codes "accepting" ∷ yes_or_no (receives r.direction && contains r.accepting time) ∷ [])

-- the lines of rows, the first one having number n (own)
abbrev pub row_lines : (time first : ℕ) → List Row → List ℕ
row_lines time n [] = []
row_lines time n (r ∷ rs) = row_line time n r ++ row_lines time (suc n) rs

-- the lines of a node (own)
abbrev pub node_lines : (time number : ℕ) → Table → List ℕ
node_lines time n t =
    line_text (codes "node" ∷ decimal n ∷ t.name ∷ address_text t.address ∷ [])
    ++ row_lines time 1 t.rows

-- the lines of nodes, the first one having number n (own)
abbrev pub nodes_lines : (time first : ℕ) → List Table → List ℕ
nodes_lines time n [] = []
nodes_lines time n (t ∷ ts) = node_lines time n t ++ nodes_lines time (suc n) ts

-- the lines of the rows of all nodes with their state at a time (RFC 7210, section 3, and own)
unfoldable pub keys_text : ℕ → List Table → List ℕ
keys_text time tables = nodes_lines time 1 tables
