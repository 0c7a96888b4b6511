-- The walk over a document never ends in a fault of syntax.
use Rattle.std.proofs.Common.{◌≡◌, ◌↔◌, ℕ, ◌+◌, ◌&&◌, cond, ltb, option_and_then, Bool, true, false, List, [], ◌∷◌, ◌++◌, codes, Option, Some, None, Result, Ok, Err, refl, ap, leb}
use Rattle.toml.specs.Data.{Data, string, integer, float, boolean, datetime, array, table, Items, no_items, item, Members, get_member}
use Rattle.book_base.specs.Hexadecimal.{bytes_of_hex}
use Rattle.book_base.specs.declared.address.Address.{Address}
use Rattle.book_base.specs.declared.algorithm.Algorithm.{Algorithm}
use Rattle.book_base.specs.Algorithms.{name_of}
use Rattle.book_keys.specs.declared.direction.Direction.{Direction}
use Rattle.book_keys.specs.declared.lifetime.Lifetime.{Lifetime}
use Rattle.book_keys.specs.Lifetimes.{greatest_time}
use Rattle.book_keys.specs.Rows.{Row, Table, node_limit, row_limit, peer_limit}
use Rattle.book_keys.specs.Overlaps.{TwoRows, first_overlap}
use Rattle.book_keys.specs.declared.fault.Column.{Column}
use Rattle.book_keys.specs.declared.fault.TableFault.{TableFault}
use Rattle.book_keys.specs.declared.fault.TableFault.TheVariants as fault
use Rattle.book_keys.specs.Reading.{must, each}
use Rattle.book_base.specs.Results.{◌>>=◌, or_fault}
use Rattle.book_keys.specs.declared.fault.Column.TheVariants as column
use Rattle.book_keys.specs.declared.groups.Ids.{Ids}
use Rattle.book_keys.specs.declared.groups.Terms.{Terms}
use Rattle.book_keys.specs.declared.groups.Ports.{Ports}
use Rattle.book_keys.specs.Columns.{count, only, row_keys, text_of, is_word, is_admin, id_of_text, ids_of, peer_of, peer_at, peers_of, is_absent_or, options_flag_of, protocol_of, kdf_of, algorithm_at, master_of, sized, direction_of, time_or, lifetime_of, TimeCell, sending_start, sending_end, accepting_start, accepting_end, terms_of, port_of, ports_of, columns_of, row_of}
use Rattle.book_keys.specs.Nodes.{node_name_of, node_address_of, rows_of, fields_of, node_of, nodes_from, overlap_of, overlap_in, unless, nodes_of, tables_of_document, document_of, tables_of}

-- another answer than a fault of syntax
abbrev Parsed : {A : Type 0} → Result A TableFault → Type 0
Parsed r = r ≡ Err fault.Syntax → ⊥

then_parsed : {A B : Type 0} (r : Result A TableFault) (f : A → Result B TableFault) → Parsed r → ((x : A) → Parsed (f x)) → Parsed (r >>= f)
then_parsed (Ok x) f one more h = more x h
then_parsed {A} (Err e) f one more h = let same : e ≡ fault.Syntax = cc in one (ap (λ (x : TableFault). Result.Err x) same)

field_parsed : {A : Type 0} (n r : ℕ) (c : Column) → Parsed {A = A} (Err (fault.Field n r c))
field_parsed n r c h = cc

or_parsed : {A : Type 0} (o : Option A) (n r : ℕ) (c : Column) → Parsed (or_fault o (fault.Field n r c))
or_parsed (Some x) n r c h = cc
or_parsed None n r c h = cc

must_parsed : (b : Bool) (n r : ℕ) (c : Column) → Parsed (must b (fault.Field n r c))
must_parsed true n r c h = cc
must_parsed false n r c h = cc

ok_parsed : {A : Type 0} (x : A) → Parsed (Ok x)
ok_parsed x h = cc

if_parsed : {A : Type 0} (b : Bool) (x y : Result A TableFault) → Parsed x → Parsed y → Parsed (cond b x y)
if_parsed true x y one two = one
if_parsed false x y one two = two

each_parsed : {A : Type 0} (read : ℕ → Data → Result A TableFault) → ((i : ℕ) (d : Data) → Parsed (read i d)) → (n : ℕ) (ds : Items) → Parsed (each read n ds)
unfolding each
each_parsed read one n no_items = ok_parsed []
each_parsed read one n (item d ds) = then_parsed (read n d) _ (one n d) (λ x. then_parsed (each read (n + 1) ds) _ (each_parsed read one (n + 1) ds) (λ xs. ok_parsed (x ∷ xs)))

module _ {A B C D : Type 0} (a : Result A TableFault) (b : Result B TableFault) (c : Result C TableFault) where
  two : (f : A → B → D) → Parsed a → Parsed b → Parsed (a >>= λ x. b >>= λ y. Ok (f x y))
  two f pa pb = then_parsed a (λ x. b >>= λ y. Ok (f x y)) pa (λ x. then_parsed b (λ y. Ok (f x y)) pb (λ y. ok_parsed (f x y)))

  three : (f : A → B → C → D) → Parsed a → Parsed b → Parsed c → Parsed (a >>= λ x. b >>= λ y. c >>= λ z. Ok (f x y z))
  three f pa pb pc =
      then_parsed a (λ x. b >>= λ y. c >>= λ z. Ok (f x y z)) pa (λ x.
      then_parsed b (λ y. c >>= λ z. Ok (f x y z)) pb (λ y. then_parsed c (λ z. Ok (f x y z)) pc (λ z. ok_parsed (f x y z))))

module _ (n r : ℕ) (ms : Members) where
  ids_parsed : Parsed (ids_of n r ms)
  unfolding ids_of
  ids_parsed =
      let admin = must (is_admin (text_of (codes "AdminKeyName") ms)) (fault.Field n r column.AdminKeyName) in
      let recv = or_fault (option_and_then id_of_text (text_of (codes "LocalKeyName") ms)) (fault.Field n r column.LocalKeyName) in
      let send = or_fault (option_and_then id_of_text (text_of (codes "PeerKeyName") ms)) (fault.Field n r column.PeerKeyName) in
      let made : Unit {0} → ℕ → ℕ → Ids = λ x y z. record { recv_id = y; send_id = z } in
      three admin recv send made (must_parsed (is_admin (text_of (codes "AdminKeyName") ms)) n r column.AdminKeyName) (or_parsed (option_and_then id_of_text (text_of (codes "LocalKeyName") ms)) n r column.LocalKeyName) (or_parsed (option_and_then id_of_text (text_of (codes "PeerKeyName") ms)) n r column.PeerKeyName)

  peers_parsed : (o : Option Data) → Parsed (peers_of n r o)
  unfolding peers_of
  peers_parsed None = field_parsed n r column.Peers
  peers_parsed (Some (string s)) = field_parsed n r column.Peers
  peers_parsed (Some (integer z)) = field_parsed n r column.Peers
  peers_parsed (Some (float x)) = field_parsed n r column.Peers
  peers_parsed (Some (boolean b)) = field_parsed n r column.Peers
  peers_parsed (Some (datetime d)) = field_parsed n r column.Peers
  peers_parsed (Some (table t)) = field_parsed n r column.Peers
  peers_parsed (Some (array ds)) =
      if_parsed (leb 1 (count ds) && leb (count ds) peer_limit) (each (peer_at n r) 1 ds) (Err (fault.Field n r column.Peers))
      (each_parsed (peer_at n r) (λ i d. or_parsed (peer_of d) n r column.Peers) 1 ds) (field_parsed n r column.Peers)

  protocol_parsed : Parsed (protocol_of n r ms)
  unfolding protocol_of
  protocol_parsed =
      let everywhere = is_absent_or (codes "all") (get_member (codes "Interfaces") ms) in
      let ao = is_word (codes "TCP-AO") (text_of (codes "Protocol") ms) in
      let options = option_and_then options_flag_of (text_of (codes "ProtocolSpecificInfo") ms) in
      then_parsed (must everywhere (fault.Field n r column.Interfaces)) (λ x. must ao (fault.Field n r column.Protocol) >>= λ y. or_fault options (fault.Field n r column.ProtocolSpecificInfo)) (must_parsed everywhere n r column.Interfaces) (λ x.
      then_parsed (must ao (fault.Field n r column.Protocol)) (λ y. or_fault options (fault.Field n r column.ProtocolSpecificInfo)) (must_parsed ao n r column.Protocol) (λ y. or_parsed options n r column.ProtocolSpecificInfo))

  algorithm_parsed : Parsed (algorithm_at n r ms)
  unfolding algorithm_at
  algorithm_parsed =
      let kdf = option_and_then kdf_of (text_of (codes "KDF") ms) in
      let named : Algorithm → Bool = λ k. is_word (name_of k) (text_of (codes "AlgID") ms) in
      then_parsed (or_fault kdf (fault.Field n r column.Kdf)) (λ k. must (named k) (fault.Field n r column.AlgId) >>= λ x. Ok k) (or_parsed kdf n r column.Kdf) (λ k.
      then_parsed (must (named k) (fault.Field n r column.AlgId)) (λ x. Ok k) (must_parsed (named k) n r column.AlgId) (λ x. ok_parsed k))

  master_parsed : (o : Option (List ℕ)) → Parsed (master_of n r o)
  unfolding master_of
  master_parsed None = field_parsed n r column.Key
  master_parsed (Some text) = or_parsed (sized (bytes_of_hex text)) n r column.Key

  lifetime_parsed : (start end : TimeCell) → Parsed (lifetime_of n r start end ms)
  unfolding lifetime_of
  lifetime_parsed start end =
      let from = time_or 0 (get_member start.name ms) in
      let to = time_or greatest_time (get_member end.name ms) in
      let made : ℕ → ℕ → Result Lifetime TableFault = λ first last. cond (ltb last first) (Err (fault.Field n r end.column)) (Ok (record { first = first; last = last })) in
      then_parsed (or_fault from (fault.Field n r start.column)) (λ first. or_fault to (fault.Field n r end.column) >>= made first) (or_parsed from n r start.column) (λ first.
      then_parsed (or_fault to (fault.Field n r end.column)) (made first) (or_parsed to n r end.column) (λ last.
      if_parsed (ltb last first) (Err (fault.Field n r end.column)) (Ok (record { first = first; last = last })) (field_parsed n r end.column) (ok_parsed (record { first = first; last = last }))))

  terms_parsed : Parsed (terms_of n r ms)
  unfolding terms_of
  terms_parsed =
      let direction = option_and_then direction_of (text_of (codes "Direction") ms) in
      let made : Direction → Lifetime → Lifetime → Terms = λ x y z. record { direction = x; sending = y; accepting = z } in
      three (or_fault direction (fault.Field n r column.Direction)) (lifetime_of n r sending_start sending_end ms) (lifetime_of n r accepting_start accepting_end ms)
      made (or_parsed direction n r column.Direction) (lifetime_parsed sending_start sending_end) (lifetime_parsed accepting_start accepting_end)

  ports_parsed : Parsed (ports_of n r ms)
  unfolding ports_of
  ports_parsed =
      let near = port_of (get_member (codes "LocalPort") ms) in
      let far = port_of (get_member (codes "PeerPort") ms) in
      let made : Option ℕ → Option ℕ → Ports = λ x y. record { local_port = x; peer_port = y } in
      two (or_fault near (fault.Field n r column.LocalPort)) (or_fault far (fault.Field n r column.PeerPort)) (or_fault far (fault.Field n r column.PeerPort)) made (or_parsed near n r column.LocalPort) (or_parsed far n r column.PeerPort)

  row_with : List (Option Address) → Ids → Bool → Algorithm → List ℕ → Terms → Ports → Row
  row_with peers ids with_options algorithm master terms ports = record {
    recv_id = ids.recv_id;
    send_id = ids.send_id;
    peers = peers;
    local_port = ports.local_port;
    peer_port = ports.peer_port;
    algorithm = algorithm;
    master = master;
    with_options = with_options;
    direction = terms.direction;
    sending = terms.sending;
    accepting = terms.accepting;
  }

  columns_parsed : Parsed (columns_of n r ms)
  unfolding columns_of row_with
  columns_parsed =
      let peers = peers_of n r (get_member (codes "Peers") ms) in
      let master = master_of n r (text_of (codes "Key") ms) in
      then_parsed (ids_of n r ms) (λ ids. peers >>= λ ps. protocol_of n r ms >>= λ o. algorithm_at n r ms >>= λ a. master >>= λ m. terms_of n r ms >>= λ t. ports_of n r ms >>= λ p. Ok (row_with ps ids o a m t p)) ids_parsed (λ ids.
      then_parsed peers (λ ps. protocol_of n r ms >>= λ o. algorithm_at n r ms >>= λ a. master >>= λ m. terms_of n r ms >>= λ t. ports_of n r ms >>= λ p. Ok (row_with ps ids o a m t p)) (peers_parsed (get_member (codes "Peers") ms)) (λ ps.
      then_parsed (protocol_of n r ms) (λ o. algorithm_at n r ms >>= λ a. master >>= λ m. terms_of n r ms >>= λ t. ports_of n r ms >>= λ p. Ok (row_with ps ids o a m t p)) protocol_parsed (λ o.
      then_parsed (algorithm_at n r ms) (λ a. master >>= λ m. terms_of n r ms >>= λ t. ports_of n r ms >>= λ p. Ok (row_with ps ids o a m t p)) algorithm_parsed (λ a.
      three master (terms_of n r ms) (ports_of n r ms) (row_with ps ids o a) (master_parsed (text_of (codes "Key") ms)) terms_parsed ports_parsed))))

row_parsed : (n r : ℕ) (d : Data) → Parsed (row_of n r d)
unfolding row_of
row_parsed n r (table ms) = if_parsed (only row_keys ms) (columns_of n r ms) (Err (fault.Field n r column.Other)) (columns_parsed n r ms) (field_parsed n r column.Other)
row_parsed n r (string s) = field_parsed n r column.Other
row_parsed n r (integer z) = field_parsed n r column.Other
row_parsed n r (float x) = field_parsed n r column.Other
row_parsed n r (boolean b) = field_parsed n r column.Other
row_parsed n r (datetime d) = field_parsed n r column.Other
row_parsed n r (array ds) = field_parsed n r column.Other

many_parsed : {A : Type 0} (n : ℕ) → Parsed {A = A} (Err (fault.TooMany n))
many_parsed n h = cc

rows_parsed : (n : ℕ) (o : Option Data) → Parsed (rows_of n o)
unfolding rows_of
rows_parsed n None = ok_parsed []
rows_parsed n (Some (array ds)) = if_parsed (leb (count ds) row_limit) (each (row_of n) 1 ds) (Err (fault.TooMany n)) (each_parsed (row_of n) (row_parsed n) 1 ds) (many_parsed n)
rows_parsed n (Some (string s)) = field_parsed n 0 column.Rows
rows_parsed n (Some (integer z)) = field_parsed n 0 column.Rows
rows_parsed n (Some (float x)) = field_parsed n 0 column.Rows
rows_parsed n (Some (boolean b)) = field_parsed n 0 column.Rows
rows_parsed n (Some (datetime d)) = field_parsed n 0 column.Rows
rows_parsed n (Some (table t)) = field_parsed n 0 column.Rows

fields_parsed : (n : ℕ) (seen : List Table) (ms : Members) → Parsed (fields_of n seen ms)
unfolding fields_of
fields_parsed n seen ms =
    let name = option_and_then (node_name_of seen) (text_of (codes "name") ms) in
    let place = option_and_then (node_address_of seen) (text_of (codes "address") ms) in
    let made : List ℕ → Address → List Row → Table = λ x y z. record { name = x; address = y; rows = z } in
    three (or_fault name (fault.Field n 0 column.Name)) (or_fault place (fault.Field n 0 column.Address)) (rows_of n (get_member (codes "key") ms)) made (or_parsed name n 0 column.Name) (or_parsed place n 0 column.Address) (rows_parsed n (get_member (codes "key") ms))

node_parsed : (n : ℕ) (seen : List Table) (d : Data) → Parsed (node_of n seen d)
unfolding node_of
node_parsed n seen (table ms) = if_parsed (only (codes "name" ∷ codes "address" ∷ codes "key" ∷ []) ms) (fields_of n seen ms) (Err (fault.Field n 0 column.Other)) (fields_parsed n seen ms) (field_parsed n 0 column.Other)
node_parsed n seen (string s) = field_parsed n 0 column.Other
node_parsed n seen (integer z) = field_parsed n 0 column.Other
node_parsed n seen (float x) = field_parsed n 0 column.Other
node_parsed n seen (boolean b) = field_parsed n 0 column.Other
node_parsed n seen (datetime d) = field_parsed n 0 column.Other
node_parsed n seen (array ds) = field_parsed n 0 column.Other

nodes_parsed : (n : ℕ) (seen : List Table) (ds : Items) → Parsed (nodes_from n seen ds)
unfolding nodes_from
nodes_parsed n seen no_items = ok_parsed seen
nodes_parsed n seen (item d ds) = then_parsed (node_of n seen d) (λ t. nodes_from (n + 1) (seen ++ t ∷ []) ds) (node_parsed n seen d) (λ t. nodes_parsed (n + 1) (seen ++ t ∷ []) ds)

-- an overlap is no fault of syntax
overlap_by : (n : ℕ) (two : Option TwoRows) (more : Option TableFault) → (more ≡ Some fault.Syntax → ⊥) → overlap_of n two more ≡ Some fault.Syntax → ⊥
overlap_by n None more none h = none h
overlap_by n (Some two) more none h = cc

overlap_parsed : (n : ℕ) (tables : List Table) → overlap_in n tables ≡ Some fault.Syntax → ⊥
unfolding overlap_in
overlap_parsed n [] h = cc
overlap_parsed n (t ∷ ts) h = overlap_by n (first_overlap 1 t.rows) (overlap_in (n + 1) ts) (overlap_parsed (n + 1) ts) h

unless_parsed : (o : Option TableFault) (tables : List Table) → (o ≡ Some fault.Syntax → ⊥) → Parsed (unless o tables)
unless_parsed None tables none h = ok_parsed tables h
unless_parsed (Some e) tables none h = let same : e ≡ fault.Syntax = cc in none (ap (λ (x : TableFault). Option.Some x) same)

value_parsed : (o : Option Data) → Parsed (nodes_of o)
unfolding nodes_of
value_parsed None = ok_parsed []
value_parsed (Some (array ds)) =
    let checked : List Table → Result (List Table) TableFault = λ tables. unless (overlap_in 1 tables) tables in
    if_parsed (leb (count ds) node_limit) (nodes_from 1 [] ds >>= checked) (Err (fault.TooMany 0)) (then_parsed (nodes_from 1 [] ds) checked (nodes_parsed 1 [] ds) (λ tables. unless_parsed (overlap_in 1 tables) tables (overlap_parsed 1 tables))) (many_parsed 0)
value_parsed (Some (string s)) = field_parsed 0 0 column.Other
value_parsed (Some (integer z)) = field_parsed 0 0 column.Other
value_parsed (Some (float x)) = field_parsed 0 0 column.Other
value_parsed (Some (boolean b)) = field_parsed 0 0 column.Other
value_parsed (Some (datetime d)) = field_parsed 0 0 column.Other
value_parsed (Some (table t)) = field_parsed 0 0 column.Other

-- a fault of syntax exactly where there is no document
document_parsed : (o : Option Members) → (tables_of_document o ≡ Err fault.Syntax) ↔ (o ≡ None)
unfolding tables_of_document
document_parsed None = (λ _. refl, λ _. refl)
document_parsed (Some ms) = (
  λ h. absurd (if_parsed (only (codes "node" ∷ []) ms) (nodes_of (get_member (codes "node") ms)) (Err (fault.Field 0 0 column.Other)) (value_parsed (get_member (codes "node") ms)) (field_parsed 0 0 column.Other) h),
  λ h. absurd (cc),
)

pub syntax_exact : (text : List ℕ) → (tables_of text ≡ Err fault.Syntax) ↔ (document_of text ≡ None)
unfolding tables_of
syntax_exact text = document_parsed (document_of text)
