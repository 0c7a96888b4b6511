-- In the tables of a key file no row ends sending before it begins, or after the last time.
use Rattle.std.proofs.Common.{◌≡◌, ℕ, zero, suc, ◌+◌, ◌-◌, ◌*◌, ◌<◌, ◌≤◌, ◌==◌, nat_le, nat_lt, Bool, true, false, ◌&&◌, cond, List, [], ◌∷◌, ◌++◌, codes, length, Option, Some, None, option_and_then, Result, Ok, Err, refl, sym, ap, ◌∙◌, subst, arith, if◌then◌else◌}
use Rattle.std.specs.List.{AllByRecursion, find}
use Rattle.std.proofs.lemmas.Bool.{ltb-false}
use Rattle.toml.specs.Data.{Data, string, integer, float, boolean, datetime, array, table, Items, no_items, item, Members, get_member, as_str}
use Rattle.book_base.specs.declared.address.Address.{Address}
use Rattle.book_base.specs.Results.{◌>>=◌, or_fault}
use Rattle.book_keys.specs.declared.fault.TableFault.{TableFault}
use Rattle.book_keys.specs.declared.fault.TableFault.TheVariants as fault
use Rattle.book_keys.specs.declared.fault.Column.{Column}
use Rattle.book_keys.specs.declared.fault.Column.TheVariants as column
use Rattle.book_keys.specs.declared.groups.Terms.{Terms}
use Rattle.book_keys.specs.declared.lifetime.Lifetime.{Lifetime}
use Rattle.book_keys.specs.Lifetimes.{greatest_time}
use Rattle.book_keys.specs.Overlaps.{TwoRows}
use Rattle.book_keys.specs.Plans.{rows_at, rows_of_table}
use Rattle.book_keys.specs.Reading.{each}
use Rattle.book_keys.specs.Rows.{Row, Table, node_limit, row_limit, has_address}
use Rattle.book_keys.specs.Columns.{count, only, text_of, time_or, lifetime_of, TimeCell, sending_start, sending_end, accepting_start, accepting_end, direction_of, ids_of, peers_of, protocol_of, algorithm_at, master_of, terms_of, ports_of, columns_of, row_of, row_keys}
use Rattle.book_keys.specs.Nodes.{node_name_of, node_address_of, rows_of, fields_of, node_of, nodes_from, overlap_in, unless, nodes_of, tables_of_document, document_of, tables_of}
use Rattle.book_keys.specs.Times.{time_of}
use Rattle.book_plans.proofs.TimeLaws.{some_is, time_bound}
use Rattle.book_plans.specs.Margins.{IsOrdered, AreOrdered}
use Rattle.book_keys.proofs.ValidLaws.{ok_is, then_ok}

-- ---- times

text_bound : (o : Option (List ℕ)) (t : ℕ) → option_and_then time_of o ≡ Some t → t ≤ greatest_time
text_bound None t e = absurd (cc)
text_bound (Some text) t e = time_bound text t e

time_or_bound : (absent : ℕ) (o : Option Data) (t : ℕ) → absent ≤ greatest_time → time_or absent o ≡ Some t → t ≤ greatest_time
time_or_bound absent None t low e = let same = some_is absent t e in omega arith
time_or_bound absent (Some d) t low e = text_bound (as_str d) t e

-- ---- columns

there : {A : Type 0} (o : Option A) (f : TableFault) (x : A) → or_fault o f ≡ Ok x → o ≡ Some x
there (Some y) f x e = ap Some (ok_is y x e)
there None f x e = absurd (cc)

-- a lifetime that ends no earlier than it begins, and by the last time
pub record Within (l : Lifetime) : Type 0 where
  pub ordered : l.first ≤ l.last
  pub written : l.last ≤ greatest_time

unless_before : (first last : ℕ) (f : TableFault) (l : Lifetime) → last ≤ greatest_time
    → ◌≡◌ {A = Result Lifetime TableFault} (if nat_lt last first then Err f else Ok (record { first = first; last = last })) (Ok l) → Within l
unless_before first last f l low e = by_test (nat_lt last first) refl e
  where
    by_test : (b : Bool) → nat_lt last first ≡ b → ◌≡◌ {A = Result Lifetime TableFault} (if b then Err f else Ok (record { first = first; last = last })) (Ok l) → Within l
    by_test true is h = absurd (cc)
    by_test false is h =
        let made : Lifetime = record { first = first; last = last } in
        let same : made ≡ l = ok_is made l h in
        subst (λ (x : Lifetime). Within x) same (record { ordered = ltb-false last first is; written = low })

lifetime_within : (n r : ℕ) (start end : TimeCell) (ms : Members) (l : Lifetime) → lifetime_of n r start end ms ≡ Ok l → Within l
unfolding lifetime_of
lifetime_within n r start end ms l e =
    let first = then_ok (or_fault (time_or 0 (get_member start.name ms)) (fault.Field n r start.column)) _ l e in
    let last = then_ok (or_fault (time_or greatest_time (get_member end.name ms)) (fault.Field n r end.column)) _ l first.2 in
    let low = time_or_bound greatest_time (get_member end.name ms) last.0 (omega arith) (there (time_or greatest_time (get_member end.name ms)) (fault.Field n r end.column) last.0 last.1) in
    unless_before first.0 last.0 (fault.Field n r end.column) l low last.2

terms_within : (n r : ℕ) (ms : Members) (t : Terms) → terms_of n r ms ≡ Ok t → Within t.sending
unfolding terms_of
terms_within n r ms t e =
    let direction = then_ok (or_fault (option_and_then direction_of (text_of (codes "Direction") ms)) (fault.Field n r column.Direction)) _ t e in
    let sending = then_ok (lifetime_of n r sending_start sending_end ms) _ t direction.2 in
    let accepting = then_ok (lifetime_of n r accepting_start accepting_end ms) _ t sending.2 in
    let made : Terms = record { direction = direction.0; sending = sending.0; accepting = accepting.0 } in
    let same : made ≡ t = ok_is made t accepting.2 in
    let good = lifetime_within n r sending_start sending_end ms sending.0 sending.1 in
    subst (λ (x : Terms). Within x.sending) same good

columns_ordered : (n r : ℕ) (ms : Members) (row : Row) → columns_of n r ms ≡ Ok row → IsOrdered row
unfolding columns_of
columns_ordered n r ms row e =
    let ids = then_ok (ids_of n r ms) _ row e in
    let peers = then_ok (peers_of n r (get_member (codes "Peers") ms)) _ row ids.2 in
    let with_options = then_ok (protocol_of n r ms) _ row peers.2 in
    let algorithm = then_ok (algorithm_at n r ms) _ row with_options.2 in
    let master = then_ok (master_of n r (text_of (codes "Key") ms)) _ row algorithm.2 in
    let terms = then_ok (terms_of n r ms) _ row master.2 in
    let ports = then_ok (ports_of n r ms) _ row terms.2 in
    let made : Row = record {
      recv_id = ids.0.recv_id;
      send_id = ids.0.send_id;
      peers = peers.0;
      local_port = ports.0.local_port;
      peer_port = ports.0.peer_port;
      algorithm = algorithm.0;
      master = master.0;
      with_options = with_options.0;
      direction = terms.0.direction;
      sending = terms.0.sending;
      accepting = terms.0.accepting;
    } in
    let same : made ≡ row = ok_is made row ports.2 in
    let good = terms_within n r ms terms.0 terms.1 in
    subst (λ (x : Row). IsOrdered x) same (record { ordered = good.ordered; written = good.written })

ok_if : {A : Type 0} (b : Bool) (r : Result A TableFault) (f : TableFault) (x : A) → (if b then r else Err f) ≡ Ok x → r ≡ Ok x
ok_if true r f x e = e
ok_if false r f x e = absurd (cc)

row_ordered : (n r : ℕ) (d : Data) (row : Row) → row_of n r d ≡ Ok row → IsOrdered row
unfolding row_of
row_ordered n r (table ms) row e = columns_ordered n r ms row (ok_if (only row_keys ms) (columns_of n r ms) (fault.Field n r column.Other) row e)
row_ordered n r (string s) row e = absurd (cc)
row_ordered n r (integer z) row e = absurd (cc)
row_ordered n r (float x) row e = absurd (cc)
row_ordered n r (boolean b) row e = absurd (cc)
row_ordered n r (datetime d) row e = absurd (cc)
row_ordered n r (array ds) row e = absurd (cc)

-- ---- tables

each_ordered : (n k : ℕ) (ds : Items) (rows : List Row) → each (row_of n) k ds ≡ Ok rows → AreOrdered rows
unfolding each
each_ordered n k no_items rows e = let same : [] ≡ rows = ok_is [] rows e in subst (λ (x : List Row). AreOrdered x) same tt
each_ordered n k (item d ds) rows e =
    let a = then_ok (row_of n k d) _ rows e in
    let b = then_ok (each (row_of n) (k + 1) ds) _ rows a.2 in
    let same : a.0 ∷ b.0 ≡ rows = ok_is (a.0 ∷ b.0) rows b.2 in
    subst (λ (x : List Row). AreOrdered x) same (row_ordered n k d a.0 a.1, each_ordered n (k + 1) ds b.0 b.1)

rows_ordered : (n : ℕ) (o : Option Data) (rows : List Row) → rows_of n o ≡ Ok rows → AreOrdered rows
unfolding rows_of
rows_ordered n None rows e = let same : [] ≡ rows = ok_is [] rows e in subst (λ (x : List Row). AreOrdered x) same tt
rows_ordered n (Some (array ds)) rows e = each_ordered n 1 ds rows (ok_if (nat_le (count ds) row_limit) (each (row_of n) 1 ds) (fault.TooMany n) rows e)
rows_ordered n (Some (string s)) rows e = absurd (cc)
rows_ordered n (Some (integer z)) rows e = absurd (cc)
rows_ordered n (Some (float x)) rows e = absurd (cc)
rows_ordered n (Some (boolean b)) rows e = absurd (cc)
rows_ordered n (Some (datetime d)) rows e = absurd (cc)
rows_ordered n (Some (table t)) rows e = absurd (cc)

abbrev TableOrdered : Table → Type 0
TableOrdered t = AreOrdered t.rows

fields_ordered : (n : ℕ) (seen : List Table) (ms : Members) (t : Table) → fields_of n seen ms ≡ Ok t → TableOrdered t
unfolding fields_of
fields_ordered n seen ms t e =
    let a = then_ok (or_fault (option_and_then (node_name_of seen) (text_of (codes "name") ms)) (fault.Field n 0 column.Name)) _ t e in
    let b = then_ok (or_fault (option_and_then (node_address_of seen) (text_of (codes "address") ms)) (fault.Field n 0 column.Address)) _ t a.2 in
    let c = then_ok (rows_of n (get_member (codes "key") ms)) _ t b.2 in
    let made : Table = record { name = a.0; address = b.0; rows = c.0 } in
    let same : made ≡ t = ok_is made t c.2 in
    subst (λ (x : Table). TableOrdered x) same (rows_ordered n (get_member (codes "key") ms) c.0 c.1)

node_ordered : (n : ℕ) (seen : List Table) (d : Data) (t : Table) → node_of n seen d ≡ Ok t → TableOrdered t
unfolding node_of
node_ordered n seen (table ms) t e =
    fields_ordered n seen ms t (ok_if (only (codes "name" ∷ codes "address" ∷ codes "key" ∷ []) ms) (fields_of n seen ms) (fault.Field n 0 column.Other) t e)
node_ordered n seen (string s) t e = absurd (cc)
node_ordered n seen (integer z) t e = absurd (cc)
node_ordered n seen (float x) t e = absurd (cc)
node_ordered n seen (boolean b) t e = absurd (cc)
node_ordered n seen (datetime d) t e = absurd (cc)
node_ordered n seen (array ds) t e = absurd (cc)

pushed : (ts : List Table) (t : Table) → AllByRecursion TableOrdered ts → TableOrdered t → AllByRecursion TableOrdered (ts ++ t ∷ [])
pushed [] t all here = (here, tt)
pushed (x ∷ ts) t all here = (all.0, pushed ts t all.1 here)

nodes_ordered : (n : ℕ) (seen : List Table) (ds : Items) (ts : List Table) → AllByRecursion TableOrdered seen → nodes_from n seen ds ≡ Ok ts → AllByRecursion TableOrdered ts
unfolding nodes_from
nodes_ordered n seen no_items ts all e = let same : seen ≡ ts = ok_is seen ts e in subst (λ (x : List Table). AllByRecursion TableOrdered x) same all
nodes_ordered n seen (item d ds) ts all e =
    let a = then_ok (node_of n seen d) _ ts e in
    nodes_ordered (n + 1) (seen ++ a.0 ∷ []) ds ts (pushed seen a.0 all (node_ordered n seen d a.0 a.1)) a.2

unless_ordered : (o : Option TableFault) (ts tables : List Table) → AllByRecursion TableOrdered ts → unless o ts ≡ Ok tables → AllByRecursion TableOrdered tables
unless_ordered None ts tables all e = let same : ts ≡ tables = ok_is ts tables e in subst (λ (x : List Table). AllByRecursion TableOrdered x) same all
unless_ordered (Some f) ts tables all e = absurd (cc)

then_ordered : (ds : Items) (tables : List Table) → (nodes_from 1 [] ds >>= λ ts. unless (overlap_in 1 ts) ts) ≡ Ok tables → AllByRecursion TableOrdered tables
then_ordered ds tables e =
    let a = then_ok (nodes_from 1 [] ds) (λ ts. unless (overlap_in 1 ts) ts) tables e in
    unless_ordered (overlap_in 1 a.0) a.0 tables (nodes_ordered 1 [] ds a.0 tt a.1) a.2

value_ordered : (o : Option Data) (tables : List Table) → nodes_of o ≡ Ok tables → AllByRecursion TableOrdered tables
unfolding nodes_of
value_ordered None tables e = let same : [] ≡ tables = ok_is [] tables e in subst (λ (x : List Table). AllByRecursion TableOrdered x) same tt
value_ordered (Some (array ds)) tables e =
    then_ordered ds tables (ok_if (nat_le (count ds) node_limit) (nodes_from 1 [] ds >>= λ ts. unless (overlap_in 1 ts) ts) (fault.TooMany 0) tables e)
value_ordered (Some (string s)) tables e = absurd (cc)
value_ordered (Some (integer z)) tables e = absurd (cc)
value_ordered (Some (float x)) tables e = absurd (cc)
value_ordered (Some (boolean b)) tables e = absurd (cc)
value_ordered (Some (datetime d)) tables e = absurd (cc)
value_ordered (Some (table t)) tables e = absurd (cc)

document_ordered : (o : Option Members) (tables : List Table) → tables_of_document o ≡ Ok tables → AllByRecursion TableOrdered tables
unfolding tables_of_document
document_ordered None tables e = absurd (cc)
document_ordered (Some ms) tables e =
    value_ordered (get_member (codes "node") ms) tables (ok_if (only (codes "node" ∷ []) ms) (nodes_of (get_member (codes "node") ms)) (fault.Field 0 0 column.Other) tables e)

-- ---- the rows of a node

found_ordered : (address : Address) (tables : List Table) → AllByRecursion TableOrdered tables → AreOrdered (rows_of_table (find (has_address address) tables))
found_ordered address [] all = tt
found_ordered address (t ∷ ts) all = by_test (has_address address t) (found_ordered address ts all.1)
  where
    by_test : (b : Bool) → AreOrdered (rows_of_table (find (has_address address) ts)) → AreOrdered (rows_of_table (if b then Some t else find (has_address address) ts))
    by_test true more = all.0
    by_test false more = more

pub file_ordered : (text : List ℕ) (tables : List Table) (address : Address) → tables_of text ≡ Ok tables → AreOrdered (rows_at tables address)
unfolding tables_of
file_ordered text tables address e = found_ordered address tables (document_ordered (document_of text) tables e)
