-- The fault of a node is that of the first finding of it.
use Rattle.std.proofs.Common.{◌≡◌, ℕ, suc, ◌+◌, ◌||◌, cond, leb, Bool, true, false, List, [], ◌∷◌, ◌++◌, codes, map, Option, Some, None, option_and_then, Result, Ok, Err, refl, ap, sym, subst, ◌∙◌, arith}
use Rattle.std.specs.Prelude.{option_to_list}
use Rattle.std.specs.List.{list_any}
use Rattle.std.specs.Str.{bytes_eq}
use Rattle.std.proofs.lemmas.List.{map-append}
use Rattle.toml.specs.Data.{Data, string, integer, float, boolean, datetime, array, table, Items, no_items, item, Members, get_member, get_item}
use Rattle.book_base.specs.declared.address.Address.{Address}
use Rattle.book_base.specs.Results.{or_fault}
use Rattle.book_keys.specs.declared.fault.Column.TheVariants as column
use Rattle.book_keys.specs.declared.fault.TableFault.{TableFault}
use Rattle.book_keys.specs.declared.fault.TableFault.TheVariants as fault
use Rattle.book_keys.specs.Rows.{Row, Table, row_limit, has_address}
use Rattle.book_keys.specs.Reading.{each}
use Rattle.book_keys.specs.Columns.{count, only, text_of, row_of}
use Rattle.book_keys.specs.Nodes.{node_name_of, node_address_of, unused, rows_of, fields_of, node_of, nodes_from}
use Rattle.book_keys.proofs.ValidLaws.{then_ok}
use Rattle.book_scope_texts.specs.declared.finding.KeyFinding.{KeyFinding}
use Rattle.book_scope_texts.specs.FieldTexts.{finding_at}
use Rattle.book_scope_texts.specs.FileFindings.{key_place, table_named, bare_table, new_name, new_address, node_name_findings, node_address_findings, rows_findings_from, rows_findings, node_keys, node_called, node_fields_findings, node_findings, names_with, addresses_with, nodes_findings_from}
use Rattle.law_keys.specs.FirstFindings.{IsOfField, value_keys, other_field}
use Rattle.law_keys.proofs.Agreeing.{Agrees, TellsField, bind, found_at, keys_agree, last, read, refused, tested, weaker}
use Rattle.law_keys.proofs.RowFaults.{field_some, row_fit, row_other, some_of, tells}

-- ---- a value among others

pub record InItems (i : ℕ) (ds : Items) (k : ℕ) (d : Data) : Type 0 where
  pub index : ℕ
  pub is : k ≡ i + index
  pub here : get_item index ds ≡ Some d

front : (i : ℕ) (d : Data) (ds : Items) → InItems i (item d ds) i d
front i d ds = record { index = 0; is = omega arith; here = refl }

later : (i k : ℕ) (d x : Data) (ds : Items) → InItems (i + 1) ds k d → InItems i (item x ds) k d
later i k d x ds h = let is : k ≡ i + 1 + h.index = h.is in record { index = suc h.index; is = omega arith; here = h.here }

-- ---- the rows of a node

pub record RowTold (n i : ℕ) (ds : Items) (e : TableFault) (f : KeyFinding) : Type 0 where
  pub row : ℕ
  pub value : Data
  pub among : InItems i ds row value
  pub told : TellsField n row (row_other value) e f

row_later : (n i : ℕ) (d : Data) (ds : Items) (e : TableFault) (f : KeyFinding) → RowTold n (i + 1) ds e f → RowTold n i (item d ds) e f
row_later n i d ds e f h = record { row = h.row; value = h.value; among = later i h.row h.value d ds h.among; told = h.told }

each_row_fit : (n i : ℕ) (name : List ℕ) (ds : Items) → Agrees (RowTold n i ds) (each (row_of n) i ds) (rows_findings_from n i name ds)
unfolding each
each_row_fit n i name no_items = read _ []
each_row_fit n i name (item d ds) =
    bind _ _ _ _ _ (weaker _ _ _ _ (λ e f h. record { row = i; value = d; among = front i d ds; told = h }) (row_fit n i name d)) (λ x e.
    last _ _ _ _ (weaker _ _ _ _ (row_later n i d ds) (each_row_fit n (i + 1) name ds)) (λ xs. (_, refl)))

-- the field of a node that Other stands for
abbrev pub node_other : Data → List ℕ
node_other d = other_field node_keys (codes "node") (value_keys (Some d))

-- what a fault of a node says: of a field of its own, of too many rows, or of one of its rows
pub data NodeTold (n : ℕ) (d : Data) (e : TableFault) (f : KeyFinding) : Type 0 where
  Own : TellsField n 0 (node_other d) e f → NodeTold n d e f
  Many : e ≡ fault.TooMany n → IsOfField f n 0 (codes "key") → NodeTold n d e f
  OfRow : (ms : Members) (ds : Items) → d ≡ table ms → get_member (codes "key") ms ≡ Some (array ds) → RowTold n 1 ds e f → NodeTold n d e f

module _ (n : ℕ) (name : List ℕ) (ms : Members) where
  no_rows : (said : List ℕ) → Agrees {A = List Row} (NodeTold n (table ms)) (Err (fault.Field n 0 column.Rows)) (finding_at (key_place n 0 name) (codes "key") said ∷ [])
  no_rows said = refused _ _ _ [] (Own (tells n 0 name (node_other (table ms)) column.Rows said))

  rows_fit : (o : Option Data) → get_member (codes "key") ms ≡ o → Agrees (NodeTold n (table ms)) (rows_of n o) (rows_findings n name o)
  unfolding rows_of rows_findings
  rows_fit None at = read _ []
  rows_fit (Some (array ds)) at =
      tested _ (leb (count ds) row_limit) _ _ _ _ (weaker _ _ _ _ (λ e f h. OfRow ms ds refl at h) (each_row_fit n 1 name ds)) (Many refl (found_at (key_place n 0 name) (codes "key") _))
  rows_fit (Some (string s)) at = no_rows _
  rows_fit (Some (integer z)) at = no_rows _
  rows_fit (Some (float x)) at = no_rows _
  rows_fit (Some (boolean b)) at = no_rows _
  rows_fit (Some (datetime d)) at = no_rows _
  rows_fit (Some (table t)) at = no_rows _

-- ---- the names and the addresses of the nodes so far

abbrev pub names_of : List Table → List (List ℕ)
names_of ts = map (λ t. t.name) ts

abbrev pub addresses_of : List Table → List Address
addresses_of ts = map (λ t. t.address) ts

any_name : (text : List ℕ) (ts : List Table) → list_any (λ t. bytes_eq t.name text) (map table_named (names_of ts)) ≡ list_any (λ t. bytes_eq t.name text) ts
any_name text [] = refl
any_name text (t ∷ ts) = ap (λ b. bytes_eq t.name text || b) (any_name text ts)

any_address : (a : Address) (ts : List Table) → list_any (has_address a) (map bare_table (addresses_of ts)) ≡ list_any (has_address a) ts
any_address a [] = refl
any_address a (t ∷ ts) = ap (λ b. has_address a t || b) (any_address a ts)

name_same : (ts : List Table) (o : Option (List ℕ)) → option_and_then (node_name_of (map table_named (names_of ts))) o ≡ option_and_then (node_name_of ts) o
name_same ts None = refl
name_same ts (Some text) = rw (any_name text ts) refl

unused_same : (ts : List Table) (o : Option Address) → unused (map bare_table (addresses_of ts)) o ≡ unused ts o
unused_same ts None = refl
unused_same ts (Some a) = rw (any_address a ts) refl

address_same : (ts : List Table) (o : Option (List ℕ)) → option_and_then (node_address_of (map bare_table (addresses_of ts))) o ≡ option_and_then (node_address_of ts) o
address_same ts None = refl
address_same ts (Some text) = unused_same ts _

-- ---- a node

module _ (n : ℕ) (name : List ℕ) (seen : List Table) (ms : Members) where
  name_fit : Agrees (NodeTold n (table ms)) (or_fault (option_and_then (node_name_of seen) (text_of (codes "name") ms)) (fault.Field n 0 column.Name)) (node_name_findings (key_place n 0 name) (names_of seen) ms)
  unfolding node_name_findings
  name_fit =
      subst (λ (o : Option (List ℕ)). Agrees (NodeTold n (table ms)) (or_fault o (fault.Field n 0 column.Name)) (node_name_findings (key_place n 0 name) (names_of seen) ms)) (name_same seen (text_of (codes "name") ms))
      (field_some _ _ _ _ _ _ (Own (tells n 0 name (node_other (table ms)) column.Name _)))

  address_fit : Agrees (NodeTold n (table ms)) (or_fault (option_and_then (node_address_of seen) (text_of (codes "address") ms)) (fault.Field n 0 column.Address)) (node_address_findings (key_place n 0 name) (addresses_of seen) ms)
  unfolding node_address_findings
  address_fit =
      subst (λ (o : Option Address). Agrees (NodeTold n (table ms)) (or_fault o (fault.Field n 0 column.Address)) (node_address_findings (key_place n 0 name) (addresses_of seen) ms)) (address_same seen (text_of (codes "address") ms))
      (field_some _ _ _ _ _ _ (Own (tells n 0 name (node_other (table ms)) column.Address _)))

  fields_fit : Agrees (NodeTold n (table ms)) (fields_of n seen ms) (node_name_findings (key_place n 0 name) (names_of seen) ms
      ++ (node_address_findings (key_place n 0 name) (addresses_of seen) ms ++ rows_findings n name (get_member (codes "key") ms)))
  unfolding fields_of
  fields_fit =
      bind _ _ _ _ _ name_fit (λ a e.
      bind _ _ _ _ _ address_fit (λ b f.
      last _ _ _ _ (rows_fit n name ms (get_member (codes "key") ms) refl) (λ c. (_, refl))))

no_node : (n : ℕ) (name said : List ℕ) (d : Data) → node_other d ≡ codes "node" → Agrees {A = Table} (NodeTold n d) (Err (fault.Field n 0 column.Other)) (finding_at (key_place n 0 name) (codes "node") said ∷ [])
no_node n name said d is = refused _ _ _ [] (Own (rw is (tells n 0 name (codes "node") column.Other said)))

node_fit : (n : ℕ) (seen : List Table) (d : Data) → Agrees (NodeTold n d) (node_of n seen d) (node_findings n (names_of seen) (addresses_of seen) d)
unfolding node_of node_findings node_fields_findings
node_fit n seen (table ms) =
    keys_agree _ node_keys (codes "node") (key_place n 0 (node_called n ms)) ms _ _ _ (λ f is. Own (record { column = column.Other; fault = refl; is = is })) (λ known. fields_fit n (node_called n ms) seen ms)
node_fit n seen (string s) = no_node n _ _ (string s) refl
node_fit n seen (integer z) = no_node n _ _ (integer z) refl
node_fit n seen (float x) = no_node n _ _ (float x) refl
node_fit n seen (boolean b) = no_node n _ _ (boolean b) refl
node_fit n seen (datetime d) = no_node n _ _ (datetime d) refl
node_fit n seen (array ds) = no_node n _ _ (array ds) refl

-- a further node that is read leaves its name and its address
record Left (seen : List Table) (t : Table) (d : Data) : Type 0 where
  names : names_with (names_of seen) d ≡ names_of (seen ++ t ∷ [])
  addresses : addresses_with (addresses_of seen) d ≡ addresses_of (seen ++ t ∷ [])

fields_left : (n : ℕ) (seen : List Table) (ms : Members) (t : Table) → fields_of n seen ms ≡ Ok t → Left seen t (table ms)
unfolding fields_of
fields_left n seen ms t h =
    let a = then_ok (or_fault (option_and_then (node_name_of seen) (text_of (codes "name") ms)) (fault.Field n 0 column.Name)) _ t h in
    let b = then_ok (or_fault (option_and_then (node_address_of seen) (text_of (codes "address") ms)) (fault.Field n 0 column.Address)) _ t a.2 in
    let c = then_ok (rows_of n (get_member (codes "key") ms)) _ t b.2 in
    let made : Table = record { name = a.0; address = b.0; rows = c.0 } in
    let same : ◌≡◌ {A = Result Table TableFault} (Ok made) (Ok t) = c.2 in
    let is : made ≡ t = cc in
    let name : new_name (names_of seen) ms ≡ Some t.name = name_same seen (text_of (codes "name") ms) ∙ (some_of _ _ a.0 a.1 ∙ ap (λ (x : Table). Some x.name) is) in
    let address : new_address (addresses_of seen) ms ≡ Some t.address = address_same seen (text_of (codes "address") ms) ∙ (some_of _ _ b.0 b.1 ∙ ap (λ (x : Table). Some x.address) is) in
    record {
      names = ap (λ (o : Option (List ℕ)). names_of seen ++ option_to_list o) name ∙ sym (map-append (λ (x : Table). x.name) seen (t ∷ []));
      addresses = ap (λ (o : Option Address). addresses_of seen ++ option_to_list o) address ∙ sym (map-append (λ (x : Table). x.address) seen (t ∷ []));
    }

only_left : (n : ℕ) (seen : List Table) (ms : Members) (t : Table) (b : Bool) (e : TableFault) → cond b (fields_of n seen ms) (Err e) ≡ Ok t → Left seen t (table ms)
only_left n seen ms t true e h = fields_left n seen ms t h
only_left n seen ms t false e h = absurd (cc)

node_left : (n : ℕ) (seen : List Table) (d : Data) (t : Table) → node_of n seen d ≡ Ok t → Left seen t d
unfolding node_of
node_left n seen (table ms) t h = only_left n seen ms t (only node_keys ms) _ h
node_left n seen (string s) t h = absurd (cc)
node_left n seen (integer z) t h = absurd (cc)
node_left n seen (float x) t h = absurd (cc)
node_left n seen (boolean b) t h = absurd (cc)
node_left n seen (datetime d) t h = absurd (cc)
node_left n seen (array ds) t h = absurd (cc)

-- ---- the nodes

pub record NodesTold (i : ℕ) (ds : Items) (e : TableFault) (f : KeyFinding) : Type 0 where
  pub node : ℕ
  pub value : Data
  pub among : InItems i ds node value
  pub told : NodeTold node value e f

node_later : (i : ℕ) (d : Data) (ds : Items) (e : TableFault) (f : KeyFinding) → NodesTold (i + 1) ds e f → NodesTold i (item d ds) e f
node_later i d ds e f h = record { node = h.node; value = h.value; among = later i h.node h.value d ds h.among; told = h.told }

pub nodes_fit : (n : ℕ) (seen : List Table) (ds : Items) → Agrees (NodesTold n ds) (nodes_from n seen ds) (nodes_findings_from n (names_of seen) (addresses_of seen) ds)
unfolding nodes_from nodes_findings_from
nodes_fit n seen no_items = read _ seen
nodes_fit n seen (item d ds) =
    bind _ _ _ _ _ (weaker _ _ _ _ (λ e f h. record { node = n; value = d; among = front n d ds; told = h }) (node_fit n seen d)) (λ t e.
    let k = node_left n seen d t e in
    rw (k.names, k.addresses) (weaker _ _ _ _ (node_later n d ds) (nodes_fit (n + 1) (seen ++ t ∷ []) ds)))
