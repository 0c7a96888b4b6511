-- The rows of a key file fit their places.
use Rattle.std.proofs.Common.{◌≡◌, ◌≤◌, ◌<◌, ℕ, ◌+◌, nat_le, ◌&&◌, cond, Bool, true, false, List, [], ◌∷◌, ◌++◌, codes, length, Option, Some, None, option_and_then, Result, Ok, Err, refl, subst, arith}
use Rattle.std.specs.List.{AllByRecursion}
use Rattle.std.proofs.lemmas.Bool.{leb-true}
use Rattle.toml.specs.Data.{Data, string, integer, float, boolean, datetime, array, table, Items, no_items, item, Members, get_member}
use Rattle.book_segments.specs.Spelling.{AreBytes}
use Rattle.book_base.specs.Decimals.{decimal_of}
use Rattle.book_base.specs.Hexadecimal.{bytes_of_hex}
use Rattle.book_keys.specs.declared.fault.TableFault.{TableFault}
use Rattle.book_keys.specs.declared.fault.Column.TheVariants as column
use Rattle.book_keys.specs.declared.fault.TableFault.TheVariants as fault
use Rattle.book_keys.specs.declared.groups.Ids.{Ids}
use Rattle.book_keys.specs.Columns.{algorithm_at, columns_of, count, id_of_text, ids_of, is_admin, master_of, only, peers_of, ports_of, protocol_of, row_keys, row_of, sized, terms_of, text_of, up_to}
use Rattle.book_keys.specs.Nodes.{node_name_of, node_address_of, rows_of, fields_of, node_of, nodes_from, overlap_in, unless, nodes_of, tables_of_document, document_of, tables_of}
use Rattle.book_keys.specs.Reading.{must, each}
use Rattle.book_base.specs.Results.{◌>>=◌, or_fault}
use Rattle.book_keys.specs.Rows.{Row, Table, node_limit, row_limit}
use Rattle.law_link.specs.Laws.{RowFits}
use Rattle.hex.specs.Hex.{IsBytes, decode_of}
use Rattle.hex.proofs.HexLemmas.{decode_of-ok}
use Rattle.law_scripts.proofs.WordRanges.{decoded}
use Rattle.book_keys.proofs.ValidLaws.{ok_is, then_ok}

fault_ok : {A : Type 0} (o : Option A) (e : TableFault) (x : A) → or_fault o e ≡ Ok x → o ≡ Some x
fault_ok (Some y) e x h = cc
fault_ok None e x h = absurd (cc)

cond_ok : {A : Type 0} (b : Bool) (r : Result A TableFault) (e : TableFault) (x : A) → cond b r (Err e) ≡ Ok x → r ≡ Ok x
cond_ok true r e x h = h
cond_ok false r e x h = absurd (cc)

-- the text that a value was made of
made_of : {A : Type 0} (f : List ℕ → Option A) (o : Option (List ℕ)) (x : A) → option_and_then f o ≡ Some x → (text : List ℕ) × (f text ≡ Some x)
made_of f (Some text) x h = (text, h)
made_of f None x h = absurd (cc)

cond_some : {A : Type 0} (b : Bool) (x y : A) → cond b (Some x) None ≡ Some y → (b ≡ true) × (x ≡ y)
cond_some true x y h = (refl, cc)
cond_some false x y h = absurd (cc)

-- ---- ids

up_to_ok : (most : ℕ) (o : Option ℕ) (n : ℕ) → up_to most o ≡ Some n → n ≤ most
up_to_ok most None n h = absurd (cc)
up_to_ok most (Some m) n h =
    let c = cond_some (nat_le m most) m n h in
    let low : m ≤ most = leb-true m most c.0 in
    let same : m ≡ n = c.1 in
    omega arith

id_ok : (o : Option (List ℕ)) (n : ℕ) → option_and_then id_of_text o ≡ Some n → n < 256
id_ok o n h =
    let t = made_of id_of_text o n h in
    let low : n ≤ 255 = up_to_ok 255 (decimal_of t.0) n t.1 in
    omega arith

ids_ok : (n r : ℕ) (ms : Members) (ids : Ids) → ids_of n r ms ≡ Ok ids → (ids.recv_id < 256) × (ids.send_id < 256)
unfolding ids_of
ids_ok n r ms ids h =
    let a = then_ok (must (is_admin (text_of (codes "AdminKeyName") ms)) (fault.Field n r column.AdminKeyName)) _ ids h in
    let b = then_ok (or_fault (option_and_then id_of_text (text_of (codes "LocalKeyName") ms)) (fault.Field n r column.LocalKeyName)) _ ids a.2 in
    let c = then_ok (or_fault (option_and_then id_of_text (text_of (codes "PeerKeyName") ms)) (fault.Field n r column.PeerKeyName)) _ ids b.2 in
    let made : Ids = record { recv_id = b.0; send_id = c.0 } in
    let same : made ≡ ids = ok_is made ids c.2 in
    let P : Ids → Type 0 = λ (x : Ids). (x.recv_id < 256) × (x.send_id < 256) in
    subst P same (
      id_ok (text_of (codes "LocalKeyName") ms) b.0 (fault_ok _ _ b.0 b.1),
      id_ok (text_of (codes "PeerKeyName") ms) c.0 (fault_ok _ _ c.0 c.1),
    )

-- ---- the master key

hex_bytes : (w bytes : List ℕ) → bytes_of_hex w ≡ Some bytes → IsBytes bytes
unfolding bytes_of_hex
hex_bytes w bytes h = (decode_of-ok w bytes (decoded w (decode_of w) bytes h)).3

sized_ok : (o : Option (List ℕ)) (bytes : List ℕ) → sized o ≡ Some bytes → o ≡ Some bytes
sized_ok None bytes h = absurd (cc)
sized_ok (Some other) bytes h =
    let c = cond_some (nat_le 1 (length other) && nat_le (length other) 255) other bytes h in
    let same : other ≡ bytes = c.1 in cc

master_ok : (n r : ℕ) (o : Option (List ℕ)) (bytes : List ℕ) → master_of n r o ≡ Ok bytes → AreBytes bytes
unfolding master_of
master_ok n r None bytes h = absurd (cc)
master_ok n r (Some text) bytes h =
    hex_bytes text bytes (sized_ok (bytes_of_hex text) bytes (fault_ok (sized (bytes_of_hex text)) (fault.Field n r column.Key) bytes h))

-- ---- a row, the rows of a node, the nodes

columns_fit : (n r : ℕ) (ms : Members) (row : Row) → columns_of n r ms ≡ Ok row → RowFits row
unfolding columns_of
columns_fit n r ms row h =
    let ids = then_ok (ids_of n r ms) _ row h in
    let peers = then_ok (peers_of n r (get_member (codes "Peers") ms)) _ row ids.2 in
    let flag = then_ok (protocol_of n r ms) _ row peers.2 in
    let alg = then_ok (algorithm_at n r ms) _ row flag.2 in
    let master = then_ok (master_of n r (text_of (codes "Key") ms)) _ row alg.2 in
    let terms = then_ok (terms_of n r ms) _ row master.2 in
    let ports = then_ok (ports_of n r ms) _ row terms.2 in
    let made : Row = record {
      recv_id = (ids.0).recv_id;
      send_id = (ids.0).send_id;
      peers = peers.0;
      local_port = (ports.0).local_port;
      peer_port = (ports.0).peer_port;
      algorithm = alg.0;
      master = master.0;
      with_options = flag.0;
      direction = (terms.0).direction;
      sending = (terms.0).sending;
      accepting = (terms.0).accepting;
    } in
    let same : made ≡ row = ok_is made row ports.2 in
    let low = ids_ok n r ms ids.0 ids.1 in
    subst RowFits same (record { recv_id = low.0; send_id = low.1; master = master_ok n r (text_of (codes "Key") ms) master.0 master.1 })

row_fits : (n r : ℕ) (d : Data) (row : Row) → row_of n r d ≡ Ok row → RowFits row
unfolding row_of
row_fits n r (table ms) row h = columns_fit n r ms row (cond_ok (only row_keys ms) (columns_of n r ms) (fault.Field n r column.Other) row h)
row_fits n r (string s) row h = absurd (cc)
row_fits n r (integer z) row h = absurd (cc)
row_fits n r (float x) row h = absurd (cc)
row_fits n r (boolean b) row h = absurd (cc)
row_fits n r (datetime d) row h = absurd (cc)
row_fits n r (array ds) row h = absurd (cc)

each_fit : (n r : ℕ) (ds : Items) (rows : List Row) → each (row_of n) r ds ≡ Ok rows → AllByRecursion RowFits rows
unfolding each
each_fit n r no_items rows h = let same : [] ≡ rows = ok_is [] rows h in subst (AllByRecursion RowFits) same tt
each_fit n r (item d ds) rows h =
    let a = then_ok (row_of n r d) (λ x. each (row_of n) (r + 1) ds >>= λ xs. Ok (x ∷ xs)) rows h in
    let b = then_ok (each (row_of n) (r + 1) ds) (λ xs. Ok (a.0 ∷ xs)) rows a.2 in
    let same : a.0 ∷ b.0 ≡ rows = ok_is (a.0 ∷ b.0) rows b.2 in
    subst (AllByRecursion RowFits) same (row_fits n r d a.0 a.1, each_fit n (r + 1) ds b.0 b.1)

-- all rows of the table fit
abbrev pub Fit : Table → Type 0
Fit t = AllByRecursion RowFits t.rows

rows_fit : (n : ℕ) (o : Option Data) (rows : List Row) → rows_of n o ≡ Ok rows → AllByRecursion RowFits rows
unfolding rows_of
rows_fit n None rows h = let same : [] ≡ rows = ok_is [] rows h in subst (AllByRecursion RowFits) same tt
rows_fit n (Some (array ds)) rows h = each_fit n 1 ds rows (cond_ok (nat_le (count ds) row_limit) (each (row_of n) 1 ds) (fault.TooMany n) rows h)
rows_fit n (Some (string s)) rows h = absurd (cc)
rows_fit n (Some (integer z)) rows h = absurd (cc)
rows_fit n (Some (float x)) rows h = absurd (cc)
rows_fit n (Some (boolean b)) rows h = absurd (cc)
rows_fit n (Some (datetime d)) rows h = absurd (cc)
rows_fit n (Some (table t)) rows h = absurd (cc)

fields_fit : (n : ℕ) (seen : List Table) (ms : Members) (t : Table) → fields_of n seen ms ≡ Ok t → Fit t
unfolding fields_of
fields_fit n seen ms t h =
    let a = then_ok (or_fault (option_and_then (node_name_of seen) (text_of (codes "name") ms)) (fault.Field n 0 column.Name)) _ t h in
    let b = then_ok (or_fault (option_and_then (node_address_of seen) (text_of (codes "address") ms)) (fault.Field n 0 column.Address)) _ t a.2 in
    let c = then_ok (rows_of n (get_member (codes "key") ms)) _ t b.2 in
    let made : Table = record { name = a.0; address = b.0; rows = c.0 } in
    let same : made ≡ t = ok_is made t c.2 in
    subst Fit same (rows_fit n (get_member (codes "key") ms) c.0 c.1)

node_fits : (n : ℕ) (seen : List Table) (d : Data) (t : Table) → node_of n seen d ≡ Ok t → Fit t
unfolding node_of
node_fits n seen (table ms) t h =
    fields_fit n seen ms t (cond_ok (only (codes "name" ∷ codes "address" ∷ codes "key" ∷ []) ms) (fields_of n seen ms) (fault.Field n 0 column.Other) t h)
node_fits n seen (string s) t h = absurd (cc)
node_fits n seen (integer z) t h = absurd (cc)
node_fits n seen (float x) t h = absurd (cc)
node_fits n seen (boolean b) t h = absurd (cc)
node_fits n seen (datetime d) t h = absurd (cc)
node_fits n seen (array ds) t h = absurd (cc)

all_push : (ts : List Table) (t : Table) → AllByRecursion Fit ts → Fit t → AllByRecursion Fit (ts ++ t ∷ [])
all_push [] t all here = (here, tt)
all_push (x ∷ ts) t all here = (all.0, all_push ts t all.1 here)

nodes_fit : (n : ℕ) (seen : List Table) (ds : Items) (ts : List Table) → AllByRecursion Fit seen → nodes_from n seen ds ≡ Ok ts → AllByRecursion Fit ts
unfolding nodes_from
nodes_fit n seen no_items ts all h = let same : seen ≡ ts = ok_is seen ts h in subst (AllByRecursion Fit) same all
nodes_fit n seen (item d ds) ts all h =
    let a = then_ok (node_of n seen d) (λ t. nodes_from (n + 1) (seen ++ t ∷ []) ds) ts h in
    nodes_fit (n + 1) (seen ++ a.0 ∷ []) ds ts (all_push seen a.0 all (node_fits n seen d a.0 a.1)) a.2

unless_is : (o : Option TableFault) (ts tables : List Table) → unless o ts ≡ Ok tables → ts ≡ tables
unless_is None ts tables h = ok_is ts tables h
unless_is (Some e) ts tables h = absurd (cc)

value_fits : (o : Option Data) (tables : List Table) → nodes_of o ≡ Ok tables → AllByRecursion Fit tables
unfolding nodes_of
value_fits None tables h = let same : [] ≡ tables = ok_is [] tables h in subst (AllByRecursion Fit) same tt
value_fits (Some (array ds)) tables h =
    let c = cond_ok (nat_le (count ds) node_limit) (nodes_from 1 [] ds >>= λ ts. unless (overlap_in 1 ts) ts) (fault.TooMany 0) tables h in
    let a = then_ok (nodes_from 1 [] ds) (λ ts. unless (overlap_in 1 ts) ts) tables c in
    subst (AllByRecursion Fit) (unless_is (overlap_in 1 a.0) a.0 tables a.2) (nodes_fit 1 [] ds a.0 tt a.1)
value_fits (Some (string s)) tables h = absurd (cc)
value_fits (Some (integer z)) tables h = absurd (cc)
value_fits (Some (float x)) tables h = absurd (cc)
value_fits (Some (boolean b)) tables h = absurd (cc)
value_fits (Some (datetime d)) tables h = absurd (cc)
value_fits (Some (table t)) tables h = absurd (cc)

document_fits : (o : Option Members) (tables : List Table) → tables_of_document o ≡ Ok tables → AllByRecursion Fit tables
unfolding tables_of_document
document_fits None tables h = absurd (cc)
document_fits (Some ms) tables h =
    value_fits (get_member (codes "node") ms) tables (cond_ok (only (codes "node" ∷ []) ms) (nodes_of (get_member (codes "node") ms)) (fault.Field 0 0 column.Other) tables h)

-- each row of each table of a key file fits its places
pub tables_fit : (text : List ℕ) (tables : List Table) → tables_of text ≡ Ok tables → AllByRecursion Fit tables
unfolding tables_of
tables_fit text tables h = document_fits (document_of text) tables h
