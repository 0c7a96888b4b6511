-- Nothing is found exactly where the walk over a key file ends without a fault.
use Rattle.std.proofs.Common.{◌≡◌, ◌↔◌, ℕ, ◌+◌, ◌&&◌, ◌||◌, cond, not, ltb, leb, Bool, true, false, List, [], ◌∷◌, ◌++◌, codes, map, Option, Some, None, option_and_then, Result, Ok, Err, refl, ap, sym, subst, ◌∙◌}
use Rattle.std.specs.Prelude.{is_some, is_ok, IsOk, option_to_list}
use Rattle.std.specs.List.{list_any}
use Rattle.std.specs.Str.{bytes_eq}
use Rattle.std.proofs.lemmas.List.{map-append}
use Rattle.toml.specs.Data.{Data, string, integer, float, boolean, datetime, array, table, Items, no_items, item, Members, no_members, member, get_member, as_str}
use Rattle.book_base.specs.Hexadecimal.{bytes_of_hex}
use Rattle.book_base.specs.declared.address.Address.{Address}
use Rattle.book_base.specs.declared.algorithm.Algorithm.{Algorithm}
use Rattle.book_base.specs.Algorithms.{name_of}
use Rattle.book_base.specs.Results.{◌>>=◌, or_fault}
use Rattle.book_keys.specs.declared.fault.Column.{Column}
use Rattle.book_keys.specs.declared.fault.Column.TheVariants as column
use Rattle.book_keys.specs.declared.fault.TableFault.{TableFault}
use Rattle.book_keys.specs.declared.fault.TableFault.TheVariants as fault
use Rattle.book_keys.specs.declared.groups.Ids.{Ids}
use Rattle.book_keys.specs.declared.groups.Terms.{Terms}
use Rattle.book_keys.specs.declared.groups.Ports.{Ports}
use Rattle.book_keys.specs.declared.lifetime.Lifetime.{Lifetime}
use Rattle.book_keys.specs.Lifetimes.{greatest_time}
use Rattle.book_keys.specs.Rows.{Row, Table, node_limit, row_limit, peer_limit, has_address}
use Rattle.book_keys.specs.Overlaps.{TwoRows, first_overlap}
use Rattle.book_keys.specs.Reading.{must, each}
use Rattle.book_keys.specs.Columns.{count, only, row_keys, text_of, is_word, is_admin, id_of_text, ids_of, peer_of, peer_at, peers_of, is_absent_or, options_flag_of, protocol_of, kdf_of, algorithm_at, master_of, sized, direction_of, time_or, lifetime_of, TimeCell, sending_start, sending_end, accepting_start, accepting_end, terms_of, port_of, ports_of, columns_of, row_of}
use Rattle.book_keys.specs.Nodes.{node_name_of, node_address_of, unused, rows_of, fields_of, node_of, nodes_from, overlap_in, unless, nodes_of, tables_of_document, document_of, tables_of}
use Rattle.book_scope_texts.specs.declared.finding.KeyFinding.{KeyFinding}
use Rattle.book_scope_texts.specs.declared.finding.KeyPlace.{KeyPlace}
use Rattle.book_scope_texts.specs.FieldTexts.{finding_at, finding_unless}
use Rattle.book_scope_texts.specs.RowFindings.{keys_in, key_finding, unknown_findings, KeyField, field_at, field_unless, id_findings, name_findings, peer_finding, each_peer_finding, peers_findings, protocol_findings, is_algorithm_with, alg_id_findings, algorithm_findings, secret_findings, time_findings, order_findings, lifetime_findings, term_findings, port_findings, column_findings, row_findings}
use Rattle.book_scope_texts.specs.FileFindings.{key_place, file_place, table_named, bare_table, new_name, new_address, node_name_findings, node_address_findings, rows_findings_from, rows_findings, node_keys, node_called, node_fields_findings, node_findings, names_with, addresses_with, nodes_findings_from, nodes_findings, field_findings, refused_findings, first_or_further, document_findings, key_findings}
use Rattle.book_keys.proofs.ValidLaws.{then_ok}

-- ---- reading that went on

must_true : (b : Bool) (e : TableFault) (u : Unit {0}) → must b e ≡ Ok u → b ≡ true
must_true true e u h = refl
must_true false e u h = absurd (cc)

some_of : {A : Type 0} (o : Option A) (e : TableFault) (x : A) → or_fault o e ≡ Ok x → o ≡ Some x
some_of {A} (Some y) e x h = let same : y ≡ x = cc in ap (λ (z : A). Some z) same
some_of None e x h = absurd (cc)

is_there : {A : Type 0} (o : Option A) (e : TableFault) (x : A) → or_fault o e ≡ Ok x → is_some o ≡ true
is_there (Some y) e x h = refl
is_there None e x h = absurd (cc)

cond_good : {A : Type 0} (b : Bool) (r : Result A TableFault) (e : TableFault) (x : A) → cond b r (Err e) ≡ Ok x → (b ≡ true) × (r ≡ Ok x)
cond_good true r e x h = (refl, h)
cond_good false r e x h = absurd (cc)

and_parts : (a b : Bool) → (a && b) ≡ true → (a ≡ true) × (b ≡ true)
and_parts true b h = (refl, h)
and_parts false b h = absurd (cc)

-- ---- nothing found

none_and : (fs gs : List KeyFinding) → fs ≡ [] → gs ≡ [] → fs ++ gs ≡ []
none_and fs gs e f = rw (e, f) refl

unless_clean : (good : Bool) (p : KeyPlace) (field said : List ℕ) → good ≡ true → finding_unless good p field said ≡ []
unless_clean good p field said h = rw h refl

clean : (good : Bool) (f : KeyField) (hint wanted : List ℕ) → good ≡ true → field_unless good f hint wanted ≡ []
unfolding field_unless
clean good f hint wanted h = rw h refl

known_clean : (known : List (List ℕ)) (p : KeyPlace) (ms : Members) → only known ms ≡ true → unknown_findings known p (keys_in ms) ≡ []
unfolding key_finding
known_clean known p no_members h = refl
known_clean known p (member key d ms) h =
    let both = and_parts (list_any (bytes_eq key) known) (only known ms) h in
    none_and _ _ (unless_clean _ _ _ _ both.0) (known_clean known p ms both.1)

-- ---- a row

module _ (p : KeyPlace) (n r : ℕ) (ms : Members) where
  id_clean : (key : List ℕ) (c : Column) (x : ℕ) → or_fault (option_and_then id_of_text (text_of key ms)) (fault.Field n r c) ≡ Ok x → id_findings p key ms ≡ []
  unfolding id_findings
  id_clean key c x h = clean _ _ _ _ (is_there _ _ x h)

  names_clean : (ids : Ids) → ids_of n r ms ≡ Ok ids → name_findings p ms ≡ []
  unfolding ids_of name_findings
  names_clean ids h =
      let a = then_ok (must (is_admin (text_of (codes "AdminKeyName") ms)) (fault.Field n r column.AdminKeyName)) _ ids h in
      let b = then_ok (or_fault (option_and_then id_of_text (text_of (codes "LocalKeyName") ms)) (fault.Field n r column.LocalKeyName)) _ ids a.2 in
      let c = then_ok (or_fault (option_and_then id_of_text (text_of (codes "PeerKeyName") ms)) (fault.Field n r column.PeerKeyName)) _ ids b.2 in
      none_and _ _ (clean _ _ _ _ (must_true _ _ a.0 a.1))
      (none_and _ _ (id_clean (codes "LocalKeyName") column.LocalKeyName b.0 b.1) (id_clean (codes "PeerKeyName") column.PeerKeyName c.0 c.1))

  each_peer_clean : (i : ℕ) (ds : Items) (ps : List (Option Address)) → each (peer_at n r) i ds ≡ Ok ps → each_peer_finding p ds ≡ []
  unfolding each peer_finding
  each_peer_clean i no_items ps h = refl
  each_peer_clean i (item d ds) ps h =
      let a = then_ok (peer_at n r i d) _ ps h in
      let b = then_ok (each (peer_at n r) (i + 1) ds) _ ps a.2 in
      none_and _ _ (unless_clean _ _ _ _ (is_there (peer_of d) (fault.Field n r column.Peers) a.0 a.1)) (each_peer_clean (i + 1) ds b.0 b.1)

  peers_clean : (o : Option Data) (ps : List (Option Address)) → peers_of n r o ≡ Ok ps → peers_findings p o ≡ []
  unfolding peers_of peers_findings
  peers_clean None ps h = absurd (cc)
  peers_clean (Some (string s)) ps h = absurd (cc)
  peers_clean (Some (integer z)) ps h = absurd (cc)
  peers_clean (Some (float x)) ps h = absurd (cc)
  peers_clean (Some (boolean b)) ps h = absurd (cc)
  peers_clean (Some (datetime d)) ps h = absurd (cc)
  peers_clean (Some (table t)) ps h = absurd (cc)
  peers_clean (Some (array ds)) ps h =
      let a = cond_good (leb 1 (count ds) && leb (count ds) peer_limit) (each (peer_at n r) 1 ds) (fault.Field n r column.Peers) ps h in
      rw a.0 (each_peer_clean 1 ds ps a.1)

  protocol_clean : (b : Bool) → protocol_of n r ms ≡ Ok b → protocol_findings p ms ≡ []
  unfolding protocol_of protocol_findings
  protocol_clean b h =
      let a = then_ok (must (is_absent_or (codes "all") (get_member (codes "Interfaces") ms)) (fault.Field n r column.Interfaces)) _ b h in
      let c = then_ok (must (is_word (codes "TCP-AO") (text_of (codes "Protocol") ms)) (fault.Field n r column.Protocol)) _ b a.2 in
      none_and _ _ (clean _ _ _ _ (must_true _ _ a.0 a.1))
      (none_and _ _ (clean _ _ _ _ (must_true _ _ c.0 c.1)) (clean _ _ _ _ (is_there _ _ b c.2)))

  alg_id_clean : (kdf : Option Algorithm) (k : Algorithm) → kdf ≡ Some k → is_word (name_of k) (text_of (codes "AlgID") ms) ≡ true → alg_id_findings p kdf ms ≡ []
  unfolding alg_id_findings
  alg_id_clean kdf k e h = rw e (clean _ _ _ _ h)

  algorithm_clean : (k : Algorithm) → algorithm_at n r ms ≡ Ok k → algorithm_findings p ms ≡ []
  unfolding algorithm_at algorithm_findings
  algorithm_clean k h =
      let a = then_ok (or_fault (option_and_then kdf_of (text_of (codes "KDF") ms)) (fault.Field n r column.Kdf)) _ k h in
      let b = then_ok (must (is_word (name_of a.0) (text_of (codes "AlgID") ms)) (fault.Field n r column.AlgId)) _ k a.2 in
      none_and _ _ (clean _ _ _ _ (is_there _ _ a.0 a.1))
      (alg_id_clean (option_and_then kdf_of (text_of (codes "KDF") ms)) a.0 (some_of _ _ a.0 a.1) (must_true _ _ b.0 b.1))

  secret_clean : (o : Option Data) (m : List ℕ) → master_of n r (option_and_then as_str o) ≡ Ok m → secret_findings p o ≡ []
  unfolding master_of secret_findings
  secret_clean None m h = absurd (cc)
  secret_clean (Some (string s)) m h =
      let is : sized (bytes_of_hex s) ≡ Some m = some_of (sized (bytes_of_hex s)) (fault.Field n r column.Key) m h in
      unless_clean _ _ _ _ (ap (λ (o : Option (List ℕ)). is_ok (or_fault o (fault.Field 0 0 column.Key))) is)
  secret_clean (Some (integer z)) m h = absurd (cc)
  secret_clean (Some (float x)) m h = absurd (cc)
  secret_clean (Some (boolean b)) m h = absurd (cc)
  secret_clean (Some (datetime d)) m h = absurd (cc)
  secret_clean (Some (array ds)) m h = absurd (cc)
  secret_clean (Some (table t)) m h = absurd (cc)

  time_clean : (absent : ℕ) (key : List ℕ) (c : Column) (x : ℕ) → or_fault (time_or absent (get_member key ms)) (fault.Field n r c) ≡ Ok x → time_findings p absent key ms ≡ []
  unfolding time_findings
  time_clean absent key c x h = clean _ _ _ _ (is_there _ _ x h)

  in_order : (b : Bool) (l made : Lifetime) (c : Column) → cond b (Err (fault.Field n r c)) (Ok made) ≡ Ok l → not b ≡ true
  in_order true l made c h = absurd (cc)
  in_order false l made c h = refl

  order_clean : (start : List ℕ) (end : KeyField) (one other : Option ℕ) (first last : ℕ) → one ≡ Some first → other ≡ Some last → not (ltb last first) ≡ true → order_findings end start one other ≡ []
  unfolding order_findings
  order_clean start end one other first last e f h = rw (e, f) (clean _ _ _ _ h)

  lifetime_clean : (start end : TimeCell) (l : Lifetime) → lifetime_of n r start end ms ≡ Ok l → lifetime_findings p start.name end.name ms ≡ []
  unfolding lifetime_of lifetime_findings
  lifetime_clean start end l h =
      let a = then_ok (or_fault (time_or 0 (get_member start.name ms)) (fault.Field n r start.column)) _ l h in
      let b = then_ok (or_fault (time_or greatest_time (get_member end.name ms)) (fault.Field n r end.column)) _ l a.2 in
      none_and _ _ (time_clean 0 start.name start.column a.0 a.1) (none_and _ _ (time_clean greatest_time end.name end.column b.0 b.1)
      (order_clean start.name (field_at p end.name ms) _ _ a.0 b.0 (some_of _ _ a.0 a.1) (some_of _ _ b.0 b.1) (in_order (ltb b.0 a.0) l (record { first = a.0; last = b.0 }) end.column b.2)))

  terms_clean : (t : Terms) → terms_of n r ms ≡ Ok t → term_findings p ms ≡ []
  unfolding terms_of term_findings
  terms_clean t h =
      let a = then_ok (or_fault (option_and_then direction_of (text_of (codes "Direction") ms)) (fault.Field n r column.Direction)) _ t h in
      let b = then_ok (lifetime_of n r sending_start sending_end ms) _ t a.2 in
      let c = then_ok (lifetime_of n r accepting_start accepting_end ms) _ t b.2 in
      none_and _ _ (clean _ _ _ _ (is_there _ _ a.0 a.1))
      (none_and _ _ (lifetime_clean sending_start sending_end b.0 b.1) (lifetime_clean accepting_start accepting_end c.0 c.1))

  port_clean : (key : List ℕ) (c : Column) (x : Option ℕ) → or_fault (port_of (get_member key ms)) (fault.Field n r c) ≡ Ok x → port_findings p key ms ≡ []
  unfolding port_findings
  port_clean key c x h = clean _ _ _ _ (is_there _ _ x h)

  ports_clean : (t : Ports) → ports_of n r ms ≡ Ok t → port_findings p (codes "LocalPort") ms ++ port_findings p (codes "PeerPort") ms ≡ []
  unfolding ports_of
  ports_clean t h =
      let a = then_ok (or_fault (port_of (get_member (codes "LocalPort") ms)) (fault.Field n r column.LocalPort)) _ t h in
      let b = then_ok (or_fault (port_of (get_member (codes "PeerPort") ms)) (fault.Field n r column.PeerPort)) _ t a.2 in
      none_and _ _ (port_clean (codes "LocalPort") column.LocalPort a.0 a.1) (port_clean (codes "PeerPort") column.PeerPort b.0 b.1)

  columns_clean : (row : Row) → columns_of n r ms ≡ Ok row → column_findings p ms ≡ []
  unfolding columns_of column_findings
  columns_clean row h =
      let a = then_ok (ids_of n r ms) _ row h in
      let b = then_ok (peers_of n r (get_member (codes "Peers") ms)) _ row a.2 in
      let c = then_ok (protocol_of n r ms) _ row b.2 in
      let d = then_ok (algorithm_at n r ms) _ row c.2 in
      let e = then_ok (master_of n r (text_of (codes "Key") ms)) _ row d.2 in
      let f = then_ok (terms_of n r ms) _ row e.2 in
      let g = then_ok (ports_of n r ms) _ row f.2 in
      none_and _ _ (names_clean a.0 a.1) (none_and _ _ (peers_clean _ b.0 b.1) (none_and _ _ (protocol_clean c.0 c.1)
      (none_and _ _ (algorithm_clean d.0 d.1) (none_and _ _ (secret_clean (get_member (codes "Key") ms) e.0 e.1)
      (none_and _ _ (terms_clean f.0 f.1) (ports_clean g.0 g.1))))))

row_clean : (p : KeyPlace) (n r : ℕ) (d : Data) (row : Row) → row_of n r d ≡ Ok row → row_findings p d ≡ []
unfolding row_of row_findings
row_clean p n r (table ms) row h =
    let a = cond_good (only row_keys ms) (columns_of n r ms) (fault.Field n r column.Other) row h in
    none_and _ _ (known_clean row_keys p ms a.0) (columns_clean p n r ms row a.1)
row_clean p n r (string s) row h = absurd (cc)
row_clean p n r (integer z) row h = absurd (cc)
row_clean p n r (float x) row h = absurd (cc)
row_clean p n r (boolean b) row h = absurd (cc)
row_clean p n r (datetime d) row h = absurd (cc)
row_clean p n r (array ds) row h = absurd (cc)

-- ---- a node

each_row_clean : (n i : ℕ) (name : List ℕ) (ds : Items) (rows : List Row) → each (row_of n) i ds ≡ Ok rows → rows_findings_from n i name ds ≡ []
unfolding each
each_row_clean n i name no_items rows h = refl
each_row_clean n i name (item d ds) rows h =
    let a = then_ok (row_of n i d) _ rows h in
    let b = then_ok (each (row_of n) (i + 1) ds) _ rows a.2 in
    none_and _ _ (row_clean (key_place n i name) n i d a.0 a.1) (each_row_clean n (i + 1) name ds b.0 b.1)

rows_clean : (n : ℕ) (name : List ℕ) (o : Option Data) (rows : List Row) → rows_of n o ≡ Ok rows → rows_findings n name o ≡ []
unfolding rows_of rows_findings
rows_clean n name None rows h = refl
rows_clean n name (Some (array ds)) rows h =
    let a = cond_good (leb (count ds) row_limit) (each (row_of n) 1 ds) (fault.TooMany n) rows h in
    rw a.0 (each_row_clean n 1 name ds rows a.1)
rows_clean n name (Some (string s)) rows h = absurd (cc)
rows_clean n name (Some (integer z)) rows h = absurd (cc)
rows_clean n name (Some (float x)) rows h = absurd (cc)
rows_clean n name (Some (boolean b)) rows h = absurd (cc)
rows_clean n name (Some (datetime d)) rows h = absurd (cc)
rows_clean n name (Some (table t)) rows h = absurd (cc)

-- the names and the addresses of tables
abbrev names_of : List Table → List (List ℕ)
names_of ts = map (λ t. t.name) ts

abbrev addresses_of : List Table → List Address
addresses_of ts = map (λ t. t.address) ts

any_name : (text : List ℕ) (ts : List Table) → list_any (λ t. bytes_eq t.name text) (map table_named (names_of ts)) ≡ list_any (λ t. bytes_eq t.name text) ts
any_name text [] = refl
any_name text (t ∷ ts) = ap (λ b. bytes_eq t.name text || b) (any_name text ts)

any_address : (a : Address) (ts : List Table) → list_any (has_address a) (map bare_table (addresses_of ts)) ≡ list_any (has_address a) ts
any_address a [] = refl
any_address a (t ∷ ts) = ap (λ b. has_address a t || b) (any_address a ts)

name_same : (ts : List Table) (o : Option (List ℕ)) → option_and_then (node_name_of (map table_named (names_of ts))) o ≡ option_and_then (node_name_of ts) o
name_same ts None = refl
name_same ts (Some text) = rw (any_name text ts) refl

unused_same : (ts : List Table) (o : Option Address) → unused (map bare_table (addresses_of ts)) o ≡ unused ts o
unused_same ts None = refl
unused_same ts (Some a) = rw (any_address a ts) refl

address_same : (ts : List Table) (o : Option (List ℕ)) → option_and_then (node_address_of (map bare_table (addresses_of ts))) o ≡ option_and_then (node_address_of ts) o
address_same ts None = refl
address_same ts (Some text) = unused_same ts _

some_is : {A : Type 0} (o : Option A) (x : A) → o ≡ Some x → is_some o ≡ true
some_is o x e = rw e refl

-- what a further node without a fault leaves
record Clean (n : ℕ) (seen : List Table) (t : Table) (d : Data) : Type 0 where
  none : node_findings n (names_of seen) (addresses_of seen) d ≡ []
  names : names_with (names_of seen) d ≡ names_of (seen ++ t ∷ [])
  addresses : addresses_with (addresses_of seen) d ≡ addresses_of (seen ++ t ∷ [])

name_clean : (p : KeyPlace) (names : List (List ℕ)) (ms : Members) → is_some (new_name names ms) ≡ true → node_name_findings p names ms ≡ []
unfolding node_name_findings
name_clean p names ms h = clean _ _ _ _ h

address_clean : (p : KeyPlace) (seen : List Address) (ms : Members) → is_some (new_address seen ms) ≡ true → node_address_findings p seen ms ≡ []
unfolding node_address_findings
address_clean p seen ms h = clean _ _ _ _ h

names_next : (seen : List Table) (ms : Members) (t : Table) → new_name (names_of seen) ms ≡ Some t.name → names_with (names_of seen) (table ms) ≡ names_of (seen ++ t ∷ [])
names_next seen ms t e = ap (λ (o : Option (List ℕ)). names_of seen ++ option_to_list o) e ∙ sym (map-append (λ (x : Table). x.name) seen (t ∷ []))

addresses_next : (seen : List Table) (ms : Members) (t : Table) → new_address (addresses_of seen) ms ≡ Some t.address → addresses_with (addresses_of seen) (table ms) ≡ addresses_of (seen ++ t ∷ [])
addresses_next seen ms t e = ap (λ (o : Option Address). addresses_of seen ++ option_to_list o) e ∙ sym (map-append (λ (x : Table). x.address) seen (t ∷ []))

fields_clean : (n : ℕ) (seen : List Table) (ms : Members) (t : Table) → only node_keys ms ≡ true → fields_of n seen ms ≡ Ok t → Clean n seen t (table ms)
unfolding fields_of node_findings node_fields_findings
fields_clean n seen ms t known h =
    let a = then_ok (or_fault (option_and_then (node_name_of seen) (text_of (codes "name") ms)) (fault.Field n 0 column.Name)) _ t h in
    let b = then_ok (or_fault (option_and_then (node_address_of seen) (text_of (codes "address") ms)) (fault.Field n 0 column.Address)) _ t a.2 in
    let c = then_ok (rows_of n (get_member (codes "key") ms)) _ t b.2 in
    let name : new_name (names_of seen) ms ≡ Some a.0 = name_same seen (text_of (codes "name") ms) ∙ some_of _ _ a.0 a.1 in
    let address : new_address (addresses_of seen) ms ≡ Some b.0 = address_same seen (text_of (codes "address") ms) ∙ some_of _ _ b.0 b.1 in
    let made : Table = record { name = a.0; address = b.0; rows = c.0 } in
    let same : ◌≡◌ {A = Result Table TableFault} (Ok made) (Ok t) = c.2 in
    let is : made ≡ t = cc in
    let place : KeyPlace = key_place n 0 (node_called n ms) in
    record {
      none = none_and _ _ (known_clean node_keys place ms known) (none_and _ _ (name_clean place (names_of seen) ms (some_is _ a.0 name)) (none_and _ _ (address_clean place (addresses_of seen) ms (some_is _ b.0 address)) (rows_clean n (node_called n ms) (get_member (codes "key") ms) c.0 c.1)));
      names = names_next seen ms t (subst (λ (x : Table). new_name (names_of seen) ms ≡ Some x.name) is name);
      addresses = addresses_next seen ms t (subst (λ (x : Table). new_address (addresses_of seen) ms ≡ Some x.address) is address);
    }

node_clean : (n : ℕ) (seen : List Table) (d : Data) (t : Table) → node_of n seen d ≡ Ok t → Clean n seen t d
unfolding node_of
node_clean n seen (table ms) t h =
    let a = cond_good (only node_keys ms) (fields_of n seen ms) (fault.Field n 0 column.Other) t h in
    fields_clean n seen ms t a.0 a.1
node_clean n seen (string s) t h = absurd (cc)
node_clean n seen (integer z) t h = absurd (cc)
node_clean n seen (float x) t h = absurd (cc)
node_clean n seen (boolean b) t h = absurd (cc)
node_clean n seen (datetime d) t h = absurd (cc)
node_clean n seen (array ds) t h = absurd (cc)

nodes_from_clean : (n : ℕ) (seen : List Table) (ds : Items) (ts : List Table) → nodes_from n seen ds ≡ Ok ts → nodes_findings_from n (names_of seen) (addresses_of seen) ds ≡ []
unfolding nodes_from nodes_findings_from
nodes_from_clean n seen no_items ts h = refl
nodes_from_clean n seen (item d ds) ts h =
    let a = then_ok (node_of n seen d) _ ts h in
    let k = node_clean n seen d a.0 a.1 in
    none_and _ _ k.none (rw (k.names, k.addresses) (nodes_from_clean (n + 1) (seen ++ a.0 ∷ []) ds ts a.2))

-- ---- the file

nodes_clean : (o : Option Data) (ts : List Table) → nodes_of o ≡ Ok ts → nodes_findings o ≡ []
unfolding nodes_of nodes_findings
nodes_clean None ts h = refl
nodes_clean (Some (array ds)) ts h =
    let a = cond_good (leb (count ds) node_limit) (nodes_from 1 [] ds >>= λ tables. unless (overlap_in 1 tables) tables) (fault.TooMany 0) ts h in
    let b = then_ok (nodes_from 1 [] ds) _ ts a.1 in
    rw a.0 (nodes_from_clean 1 [] ds b.0 b.1)
nodes_clean (Some (string s)) ts h = absurd (cc)
nodes_clean (Some (integer z)) ts h = absurd (cc)
nodes_clean (Some (float x)) ts h = absurd (cc)
nodes_clean (Some (boolean b)) ts h = absurd (cc)
nodes_clean (Some (datetime d)) ts h = absurd (cc)
nodes_clean (Some (table t)) ts h = absurd (cc)

document_clean : (text : List ℕ) (o : Option Members) (ts : List Table) → tables_of_document o ≡ Ok ts → tables_of text ≡ Ok ts → document_findings text o ≡ []
unfolding tables_of_document field_findings
document_clean text None ts h e = absurd (cc)
document_clean text (Some ms) ts h e =
    let a = cond_good (only (codes "node" ∷ []) ms) (nodes_of (get_member (codes "node") ms)) (fault.Field 0 0 column.Other) ts h in
    let fields : unknown_findings (codes "node" ∷ []) file_place (keys_in ms) ++ nodes_findings (get_member (codes "node") ms) ≡ [] =
    none_and _ _ (known_clean (codes "node" ∷ []) file_place ms a.0) (nodes_clean (get_member (codes "node") ms) ts a.1) in
    rw (fields, e) refl

none_refused : (ms : Members) (r : Result (List Table) TableFault) → refused_findings ms r ≡ [] → IsOk r
none_refused ms (Ok ts) h = refl
none_refused ms (Err fault.Memory) h = absurd (cc)
none_refused ms (Err fault.Syntax) h = absurd (cc)
none_refused ms (Err (fault.Field n r c)) h = absurd (cc)
none_refused ms (Err (fault.TooMany n)) h = absurd (cc)
none_refused ms (Err (fault.Overlap n r s)) h = absurd (cc)

none_further : (fs gs : List KeyFinding) → first_or_further fs gs ≡ [] → gs ≡ []
none_further [] gs h = h
none_further (f ∷ fs) gs h = absurd (cc)

none_read : (text : List ℕ) (o : Option Members) → document_findings text o ≡ [] → IsOk (tables_of text)
none_read text None h = absurd (cc)
none_read text (Some ms) h = none_refused ms (tables_of text) (none_further (field_findings ms) (refused_findings ms (tables_of text)) h)

ok_clean : (text : List ℕ) (r : Result (List Table) TableFault) → tables_of text ≡ r → IsOk r → key_findings text ≡ []
unfolding key_findings tables_of
ok_clean text (Ok ts) e h = document_clean text (document_of text) ts e e
ok_clean text (Err f) e h = absurd (cc)

pub findings_exact : (text : List ℕ) → (key_findings text ≡ []) ↔ IsOk (tables_of text)
unfolding key_findings
findings_exact text = ((λ h. none_read text (document_of text) h), (λ h. ok_clean text (tables_of text) refl h))
