-- The fault of a file is that of its first finding.
use Rattle.std.proofs.Common.{◌≡◌, ℕ, suc, ◌+◌, ◌-◌, cond, leb, Bool, true, false, List, [], ◌∷◌, ◌++◌, codes, Option, Some, None, option_and_then, Result, Ok, Err, refl, ap, sym, subst, ◌∙◌, arith}
use Rattle.toml.specs.Data.{Data, string, integer, float, boolean, datetime, array, table, Items, Members, get_member, get_item, at}
use Rattle.book_base.specs.Results.{◌>>=◌}
use Rattle.book_keys.specs.declared.fault.Column.TheVariants as column
use Rattle.book_keys.specs.declared.fault.TableFault.{TableFault}
use Rattle.book_keys.specs.declared.fault.TableFault.TheVariants as fault
use Rattle.book_keys.specs.Rows.{Table, node_limit}
use Rattle.book_keys.specs.Overlaps.{TwoRows, first_overlap}
use Rattle.book_keys.specs.Columns.{count, only}
use Rattle.book_keys.specs.Nodes.{overlap_of, overlap_in, unless, nodes_from, nodes_of, tables_of_document, document_of, tables_of}
use Rattle.book_scope_texts.specs.declared.finding.KeyFinding.{KeyFinding}
use Rattle.book_scope_texts.specs.FieldTexts.{finding_at}
use Rattle.book_scope_texts.specs.RowFindings.{keys_in, unknown_findings}
use Rattle.book_scope_texts.specs.FileFindings.{file_place, first_or_further, field_findings, key_place, nodes_findings, nodes_findings_from, overlap_said, refused_findings, document_findings, key_findings}
use Rattle.law_keys.specs.FirstFindings.{BeginsWith, IsOfField, IsFindingOf, column_field, value_keys, known_keys, other_field, row_data, table_key, value_at}
use Rattle.law_keys.proofs.Agreeing.{TellsField, begins_and, begins_more, found_at, keys_clean, other_known, same_fault, unknown_begins}
use Rattle.law_keys.proofs.NodeFaults.{NodeTold, Own, Many, OfRow, NodesTold, nodes_fit}

-- ---- what is told is of the place in the document

field_told : (document : Option Members) (n r : ℕ) (d : Data) (e : TableFault) (f : KeyFinding) → value_at document n r ≡ Some d →
    TellsField n r (other_field (known_keys n r) (table_key n r) (value_keys (Some d))) e f → IsFindingOf document e f
field_told document n r d e f is h =
    let at = subst (λ (o : Option Data). IsOfField f n r (column_field (other_field (known_keys n r) (table_key n r) (value_keys o)) h.column)) (sym is) h.is in
    subst (λ (z : TableFault). IsFindingOf document z f) (sym h.fault) at

one_less : (i : ℕ) → suc i - 1 ≡ i
one_less i = omega arith

one_more : (k i : ℕ) → k ≡ 1 + i → k ≡ suc i
one_more k i h = omega arith

item_at : (ds : Items) (i : ℕ) (d : Data) → get_item i ds ≡ Some d → at (suc i - 1) (array ds) ≡ Some d
item_at ds i d here = ap (λ (k : ℕ). get_item k ds) (one_less i) ∙ here

node_at : (ms : Members) (ds : Items) (i : ℕ) (d : Data) → get_member (codes "node") ms ≡ Some (array ds) → get_item i ds ≡ Some d → value_at (Some ms) (suc i) 0 ≡ Some d
node_at ms ds i d got here = ap (option_and_then (at (suc i - 1))) got ∙ item_at ds i d here

row_at : (ms ns : Members) (rs : Items) (i j : ℕ) (d : Data) → value_at (Some ms) (suc i) 0 ≡ Some (table ns) → get_member (codes "key") ns ≡ Some (array rs) → get_item j rs ≡ Some d →
    value_at (Some ms) (suc i) (suc j) ≡ Some d
row_at ms ns rs i j d is got here = ap (row_data (suc j)) is ∙ (ap (option_and_then (at (suc j - 1))) got ∙ item_at rs j d here)

node_told : (ms : Members) (ds : Items) (i : ℕ) (d : Data) (e : TableFault) (f : KeyFinding) → get_member (codes "node") ms ≡ Some (array ds) → get_item i ds ≡ Some d → NodeTold (suc i) d e f → IsFindingOf (Some ms) e f
node_told ms ds i d e f got here (Own h) = field_told (Some ms) (suc i) 0 d e f (node_at ms ds i d got here) h
node_told ms ds i d e f got here (Many is h) = subst (λ (z : TableFault). IsFindingOf (Some ms) z f) (sym is) h
node_told ms ds i d e f got here (OfRow ns rs is rows h) =
    let row : h.row ≡ suc h.among.index = one_more h.row h.among.index h.among.is in
    let node : value_at (Some ms) (suc i) 0 ≡ Some (table ns) = node_at ms ds i d got here ∙ ap (λ (x : Data). Some x) is in
    field_told (Some ms) (suc i) (suc h.among.index) h.value e f (row_at ms ns rs i h.among.index h.value node rows h.among.here)
    (subst (λ (k : ℕ). TellsField (suc i) k (other_field (known_keys (suc i) 1) (codes "key") (value_keys (Some h.value))) e f) row h.told)

nodes_told : (ms : Members) (ds : Items) (e : TableFault) (f : KeyFinding) → get_member (codes "node") ms ≡ Some (array ds) → NodesTold 1 ds e f → IsFindingOf (Some ms) e f
nodes_told ms ds e f got h =
    node_told ms ds h.among.index h.value e f got h.among.here (subst (λ (k : ℕ). NodeTold k h.value e f) (one_more h.node h.among.index h.among.is) h.told)

-- ---- rows that overlap

data IsOverlap (e : TableFault) : Type 0 where
  Rows : (n r s : ℕ) → e ≡ fault.Overlap n r s → IsOverlap e

overlap_by : (n : ℕ) (o : Option TwoRows) (more : Option TableFault) (e : TableFault) → overlap_of n o more ≡ Some e → (more ≡ Some e → IsOverlap e) → IsOverlap e
overlap_by n None more e h next = next h
overlap_by n (Some two) more e h next = Rows n two.first two.second (cc)

is_overlap : (n : ℕ) (ts : List Table) (e : TableFault) → overlap_in n ts ≡ Some e → IsOverlap e
unfolding overlap_in
is_overlap n [] e h = absurd (cc)
is_overlap n (t ∷ ts) e h = overlap_by n (first_overlap 1 t.rows) (overlap_in (n + 1) ts) e h (is_overlap (n + 1) ts e)

-- ---- the nodes of a document

-- a fault, and what is found in the fields: it begins with a finding of the fault, or nothing is found and rows overlap
data Unread (ms : Members) (e : TableFault) (fs : List KeyFinding) : Type 0 where
  Found : BeginsWith (IsFindingOf (Some ms) e) fs → Unread ms e fs
  Overlapping : fs ≡ [] → IsOverlap e → Unread ms e fs

apart_by : (ms : Members) (ts : List Table) (e : TableFault) (fs : List KeyFinding) (o : Option TableFault) → overlap_in 1 ts ≡ o → unless o ts ≡ Err e → fs ≡ [] → Unread ms e fs
apart_by ms ts e fs None is h none = absurd (cc)
apart_by ms ts e fs (Some d) is h none = Overlapping none (is_overlap 1 ts e (is ∙ ap (λ (x : TableFault). Some x) (same_fault d e h)))

read_by : (ms : Members) (ds : Items) (e : TableFault) (r : Result (List Table) TableFault) → nodes_from 1 [] ds ≡ r → get_member (codes "node") ms ≡ Some (array ds) →
    (r >>= λ tables. unless (overlap_in 1 tables) tables) ≡ Err e → Unread ms e (nodes_findings_from 1 [] [] ds)
read_by ms ds e (Ok ts) is got h = apart_by ms ts e _ (overlap_in 1 ts) refl h ((nodes_fit 1 [] ds).good ts is)
read_by ms ds e (Err d) is got h =
    Found (begins_more _ _ _ (λ f told. nodes_told ms ds e f got told) ((nodes_fit 1 [] ds).bad e (is ∙ ap Err (same_fault d e h))))

array_by : (ms : Members) (ds : Items) (e : TableFault) (b : Bool) (said : List ℕ) → get_member (codes "node") ms ≡ Some (array ds) →
    cond b (nodes_from 1 [] ds >>= λ tables. unless (overlap_in 1 tables) tables) (Err (fault.TooMany 0)) ≡ Err e →
    Unread ms e (cond b (nodes_findings_from 1 [] [] ds) (finding_at file_place (codes "node") said ∷ []))
array_by ms ds e true said got h = read_by ms ds e (nodes_from 1 [] ds) refl got h
array_by ms ds e false said got h = Found (subst (λ (z : TableFault). IsFindingOf (Some ms) z (finding_at file_place (codes "node") said)) (same_fault _ e h) (found_at file_place (codes "node") said))

no_array : (ms : Members) (e : TableFault) (said : List ℕ) → only (codes "node" ∷ []) ms ≡ true → ◌≡◌ {A = Result (List Table) TableFault} (Err (fault.Field 0 0 column.Other)) (Err e) →
    Unread ms e (finding_at file_place (codes "node") said ∷ [])
no_array ms e said known h =
    let found : IsFindingOf (Some ms) (fault.Field 0 0 column.Other) (finding_at file_place (codes "node") said) = rw (other_known (codes "node" ∷ []) (codes "node") ms known) (found_at file_place (codes "node") said) in
    Found (subst (λ (z : TableFault). IsFindingOf (Some ms) z (finding_at file_place (codes "node") said)) (same_fault _ e h) found)

nodes_by : (ms : Members) (e : TableFault) (o : Option Data) → only (codes "node" ∷ []) ms ≡ true → get_member (codes "node") ms ≡ o → nodes_of o ≡ Err e → Unread ms e (nodes_findings o)
unfolding nodes_of nodes_findings
nodes_by ms e None known got h = absurd (cc)
nodes_by ms e (Some (array ds)) known got h = array_by ms ds e (leb (count ds) node_limit) _ got h
nodes_by ms e (Some (string s)) known got h = no_array ms e _ known h
nodes_by ms e (Some (integer z)) known got h = no_array ms e _ known h
nodes_by ms e (Some (float x)) known got h = no_array ms e _ known h
nodes_by ms e (Some (boolean b)) known got h = no_array ms e _ known h
nodes_by ms e (Some (datetime d)) known got h = no_array ms e _ known h
nodes_by ms e (Some (table t)) known got h = no_array ms e _ known h

-- ---- the file

fields_by : (ms : Members) (e : TableFault) (b : Bool) → only (codes "node" ∷ []) ms ≡ b → cond b (nodes_of (get_member (codes "node") ms)) (Err (fault.Field 0 0 column.Other)) ≡ Err e → Unread ms e (field_findings ms)
unfolding field_findings
fields_by ms e true known h =
    subst (λ (fs : List KeyFinding). Unread ms e (fs ++ nodes_findings (get_member (codes "node") ms))) (sym (keys_clean (codes "node" ∷ []) file_place ms known))
    (nodes_by ms e (get_member (codes "node") ms) known refl h)
fields_by ms e false known h =
    let first = unknown_begins (codes "node" ∷ []) (codes "node") file_place ms known in
    Found (begins_and (IsFindingOf (Some ms) e) (unknown_findings (codes "node" ∷ []) file_place (keys_in ms)) (nodes_findings (get_member (codes "node") ms)) (subst (λ (z : TableFault). BeginsWith (IsFindingOf (Some ms) z) (unknown_findings (codes "node" ∷ []) file_place (keys_in ms))) (same_fault _ e h) first))

overlap_told : (ms : Members) (n r s : ℕ) (name : List ℕ) → IsFindingOf (Some ms) (fault.Overlap n r s) (finding_at (key_place n s name) (codes "key") (overlap_said r))
unfolding finding_at
overlap_told ms n r s name = (record { node = refl; row = refl; field = refl }, (name, refl))

refused_begins : (ms : Members) (e : TableFault) → IsOverlap e → BeginsWith (IsFindingOf (Some ms) e) (refused_findings ms (Err e))
refused_begins ms e (Rows n r s is) =
    subst (λ (z : TableFault). BeginsWith (IsFindingOf (Some ms) z) (refused_findings ms (Err z))) (sym is) (overlap_told ms n r s _)

further : (P : KeyFinding → Type 0) (fs gs : List KeyFinding) → BeginsWith P fs → BeginsWith P (first_or_further fs gs)
further P [] gs h = absurd h
further P (f ∷ fs) gs h = h

unread_begins : (ms : Members) (e : TableFault) (fs : List KeyFinding) → Unread ms e fs → BeginsWith (IsFindingOf (Some ms) e) (first_or_further fs (refused_findings ms (Err e)))
unread_begins ms e fs (Found h) = further _ fs _ h
unread_begins ms e fs (Overlapping none is) = rw none (refused_begins ms e is)

syntax_told : (e : TableFault) → ◌≡◌ {A = Result (List Table) TableFault} (Err fault.Syntax) (Err e) → IsFindingOf None e (finding_at file_place (codes "file") (codes "no TOML"))
unfolding finding_at
syntax_told e h =
    subst (λ (z : TableFault). IsFindingOf None z (finding_at file_place (codes "file") (codes "no TOML"))) (same_fault _ e h) (record { node = refl; row = refl; field = refl }, refl)

document_begins : (text : List ℕ) (o : Option Members) (e : TableFault) → tables_of_document o ≡ Err e → tables_of text ≡ Err e → BeginsWith (IsFindingOf o e) (document_findings text o)
unfolding tables_of_document
document_begins text None e h is = syntax_told e h
document_begins text (Some ms) e h is =
    rw is (unread_begins ms e (field_findings ms) (fields_by ms e (only (codes "node" ∷ []) ms) refl h))

pub first_is_fault : (text : List ℕ) (e : TableFault) → tables_of text ≡ Err e → BeginsWith (IsFindingOf (document_of text) e) (key_findings text)
unfolding tables_of key_findings
first_is_fault text e h = document_begins text (document_of text) e h h
