-- Tables without a fault of the walk are valid.
use Rattle.std.proofs.Common.{◌≡◌, ◌≤◌, ℕ, zero, suc, ◌+◌, leb, cond, Bool, true, false, List, [], ◌∷◌, ◌++◌, codes, length, Option, Some, None, option_and_then, Result, Ok, Err, refl, ap, subst, arith}
use Rattle.std.specs.List.{All}
use Rattle.std.proofs.lemmas.Bool.Decides.{nat_tests}
use Rattle.toml.specs.Data.{Data, string, integer, float, boolean, datetime, array, table, Items, no_items, item, Members, get_member}
use Rattle.book_base.specs.declared.address.Address.{Address}
use Rattle.book_base.specs.declared.algorithm.Algorithm.{Algorithm}
use Rattle.book_keys.specs.Shared.{shared_row, shared_tables}
use Rattle.book_keys.specs.Rows.{Row, Table, node_limit, row_limit}
use Rattle.book_keys.specs.Overlaps.{TwoRows, first_overlap, AreApart, IsValid}
use Rattle.book_keys.proofs.OverlapLaws.{first_overlap-none}
use Rattle.book_keys.specs.declared.fault.TableFault.{TableFault}
use Rattle.book_keys.specs.declared.fault.Column.TheVariants as column
use Rattle.book_keys.specs.declared.fault.TableFault.TheVariants as fault
use Rattle.book_keys.specs.Reading.{each}
use Rattle.book_base.specs.Results.{◌>>=◌, or_fault}
use Rattle.book_keys.specs.Columns.{count, only, text_of, row_of}
use Rattle.book_keys.specs.Nodes.{node_name_of, node_address_of, rows_of, fields_of, node_of, nodes_from, overlap_of, overlap_in, unless, nodes_of, tables_of_document, document_of, tables_of}

-- ---- what holds of each of a list

all_cons : (P : Table → Type 0) (t : Table) (ts : List Table) → P t → All P ts → All P (t ∷ ts)
all_cons P t ts here more zero d lt = here
all_cons P t ts here more (suc k) d lt = more k d (omega arith)

all_push : (P : Table → Type 0) (ts : List Table) (t : Table) → All P ts → P t → All P (ts ++ t ∷ [])
all_push P [] t all here zero d lt = here
all_push P [] t all here (suc k) d lt = absurd (omega arith)
all_push P (x ∷ ts) t all here zero d lt = all 0 d (omega arith)
all_push P (x ∷ ts) t all here (suc k) d lt = all_push P ts t (λ j e low. all (suc j) e (omega arith)) here k d (omega arith)

-- ---- at most 64 rows

abbrev Short : Table → Type 0
Short t = length t.rows ≤ row_limit

pub ok_is : {A : Type 0} (x y : A) → ◌≡◌ {A = Result A TableFault} (Ok x) (Ok y) → x ≡ y
ok_is x y e = cc

-- reading that went on and didn't fail
pub then_ok : {A B : Type 0} (r : Result A TableFault) (f : A → Result B TableFault) (y : B) → (r >>= f) ≡ Ok y → (x : A) × (r ≡ Ok x) × (f x ≡ Ok y)
then_ok (Ok x) f y e = (x, refl, e)
then_ok (Err x) f y e = absurd (cc)

each_length : (read : ℕ → Data → Result Row TableFault) (n : ℕ) (ds : Items) (rows : List Row) → each read n ds ≡ Ok rows → length rows ≡ count ds
unfolding each
each_length read n no_items rows e = let same : [] ≡ rows = ok_is [] rows e in rw (← same) refl
each_length read n (item d ds) rows e =
    let a = then_ok (read n d) (λ x. each read (n + 1) ds >>= λ xs. Ok (x ∷ xs)) rows e in
    let b = then_ok (each read (n + 1) ds) (λ xs. Ok (a.0 ∷ xs)) rows a.2 in
    let more : length b.0 ≡ count ds = each_length read (n + 1) ds b.0 b.1 in
    let same : a.0 ∷ b.0 ≡ rows = ok_is (a.0 ∷ b.0) rows b.2 in
    rw (← same) (ap suc more)

le_is : (n m : ℕ) → leb n m ≡ true → n ≤ m
le_is n m e = grind (arith, nat_tests)

cond_ok : (b : Bool) (r : Result (List Row) TableFault) (e : TableFault) (rows : List Row) → cond b r (Err e) ≡ Ok rows → (b ≡ true) × (r ≡ Ok rows)
cond_ok true r e rows h = (refl, h)
cond_ok false r e rows h = absurd (cc)

rows_short : (n : ℕ) (o : Option Data) (rows : List Row) → rows_of n o ≡ Ok rows → length rows ≤ row_limit
unfolding rows_of
rows_short n None rows h = let same : [] ≡ rows = ok_is [] rows h in rw (← same) (omega arith)
rows_short n (Some (array ds)) rows h =
    let c = cond_ok (leb (count ds) row_limit) (each (row_of n) 1 ds) (fault.TooMany n) rows h in
    let few = le_is (count ds) row_limit c.0 in
    let same = each_length (row_of n) 1 ds rows c.1 in
    omega arith
rows_short n (Some (string s)) rows h = absurd (cc)
rows_short n (Some (integer z)) rows h = absurd (cc)
rows_short n (Some (float x)) rows h = absurd (cc)
rows_short n (Some (boolean b)) rows h = absurd (cc)
rows_short n (Some (datetime d)) rows h = absurd (cc)
rows_short n (Some (table t)) rows h = absurd (cc)

fields_short : (n : ℕ) (seen : List Table) (ms : Members) (t : Table) → fields_of n seen ms ≡ Ok t → Short t
unfolding fields_of
fields_short n seen ms t h =
    let a = then_ok (or_fault (option_and_then (node_name_of seen) (text_of (codes "name") ms)) (fault.Field n 0 column.Name)) _ t h in
    let b = then_ok (or_fault (option_and_then (node_address_of seen) (text_of (codes "address") ms)) (fault.Field n 0 column.Address)) _ t a.2 in
    let c = then_ok (rows_of n (get_member (codes "key") ms)) _ t b.2 in
    let few = rows_short n (get_member (codes "key") ms) c.0 c.1 in
    let made : Table = record { name = a.0; address = b.0; rows = c.0 } in
    let same : made ≡ t = ok_is made t c.2 in
    subst Short same few

cond_table : (b : Bool) (r : Result Table TableFault) (e : TableFault) (t : Table) → cond b r (Err e) ≡ Ok t → r ≡ Ok t
cond_table true r e t h = h
cond_table false r e t h = absurd (cc)

node_short : (n : ℕ) (seen : List Table) (d : Data) (t : Table) → node_of n seen d ≡ Ok t → Short t
unfolding node_of
node_short n seen (table ms) t h =
    fields_short n seen ms t (cond_table (only (codes "name" ∷ codes "address" ∷ codes "key" ∷ []) ms) (fields_of n seen ms) (fault.Field n 0 column.Other) t h)
node_short n seen (string s) t h = absurd (cc)
node_short n seen (integer z) t h = absurd (cc)
node_short n seen (float x) t h = absurd (cc)
node_short n seen (boolean b) t h = absurd (cc)
node_short n seen (datetime d) t h = absurd (cc)
node_short n seen (array ds) t h = absurd (cc)

nodes_short : (n : ℕ) (seen : List Table) (ds : Items) (ts : List Table) → All Short seen → nodes_from n seen ds ≡ Ok ts → All Short ts
unfolding nodes_from
nodes_short n seen no_items ts all h = let same : seen ≡ ts = ok_is seen ts h in subst (λ (x : List Table). All Short x) same all
nodes_short n seen (item d ds) ts all h =
    let a = then_ok (node_of n seen d) (λ t. nodes_from (n + 1) (seen ++ t ∷ []) ds) ts h in
    nodes_short (n + 1) (seen ++ a.0 ∷ []) ds ts (all_push Short seen a.0 all (node_short n seen d a.0 a.1)) a.2

-- ---- no two rows overlap

abbrev Apart : Table → Type 0
Apart t = AreApart t.rows

none_by : (n : ℕ) (t : Table) (ts : List Table) (two : Option TwoRows) (more : Option TableFault) → first_overlap 1 t.rows ≡ two → (more ≡ None → All Apart ts) → overlap_of n two more ≡ None → All Apart (t ∷ ts)
none_by n t ts None more e apart h = all_cons Apart t ts (first_overlap-none t.rows e) (apart h)
none_by n t ts (Some two) more e apart h = absurd (cc)

overlap_in-none : (n : ℕ) (ts : List Table) → overlap_in n ts ≡ None → All Apart ts
unfolding overlap_in
overlap_in-none n [] h = λ k d lt. absurd (omega arith)
overlap_in-none n (t ∷ ts) h = none_by n t ts (first_overlap 1 t.rows) (overlap_in (n + 1) ts) refl (overlap_in-none (n + 1) ts) h

-- ---- both

abbrev Valid : Table → Type 0
Valid t = IsValid t.rows

none_valid : All Valid []
none_valid k d lt = absurd (omega arith)

both : (ts : List Table) → All Short ts → All Apart ts → All Valid ts
both ts short apart k d lt = record { apart = apart k d lt; limit = short k d lt }

unless_valid : (o : Option TableFault) (ts tables : List Table) → All Short ts → (o ≡ None → All Apart ts) → unless o ts ≡ Ok tables → All Valid tables
unless_valid None ts tables short apart h = let same : ts ≡ tables = ok_is ts tables h in subst (λ (x : List Table). All Valid x) same (both ts short (apart refl))
unless_valid (Some e) ts tables short apart h = absurd (cc)

if_valid : (b : Bool) (r : Result (List Table) TableFault) (e : TableFault) (tables : List Table) → (r ≡ Ok tables → All Valid tables) → cond b r (Err e) ≡ Ok tables → All Valid tables
if_valid true r e tables valid h = valid h
if_valid false r e tables valid h = absurd (cc)

then_valid : (ds : Items) (tables : List Table) → (nodes_from 1 [] ds >>= λ ts. unless (overlap_in 1 ts) ts) ≡ Ok tables → All Valid tables
then_valid ds tables h =
    let a = then_ok (nodes_from 1 [] ds) (λ ts. unless (overlap_in 1 ts) ts) tables h in
    unless_valid (overlap_in 1 a.0) a.0 tables (nodes_short 1 [] ds a.0 (λ k d lt. absurd (omega arith)) a.1) (overlap_in-none 1 a.0) a.2

value_valid : (o : Option Data) (tables : List Table) → nodes_of o ≡ Ok tables → All Valid tables
unfolding nodes_of
value_valid None tables h = let same : [] ≡ tables = ok_is [] tables h in subst (λ (x : List Table). All Valid x) same none_valid
value_valid (Some (array ds)) tables h = if_valid (leb (count ds) node_limit) (nodes_from 1 [] ds >>= λ ts. unless (overlap_in 1 ts) ts) (fault.TooMany 0) tables (then_valid ds tables) h
value_valid (Some (string s)) tables h = absurd (cc)
value_valid (Some (integer z)) tables h = absurd (cc)
value_valid (Some (float x)) tables h = absurd (cc)
value_valid (Some (boolean b)) tables h = absurd (cc)
value_valid (Some (datetime d)) tables h = absurd (cc)
value_valid (Some (table t)) tables h = absurd (cc)

document_valid : (o : Option Members) (tables : List Table) → tables_of_document o ≡ Ok tables → All Valid tables
unfolding tables_of_document
document_valid None tables h = absurd (cc)
document_valid (Some ms) tables h = if_valid (only (codes "node" ∷ []) ms) (nodes_of (get_member (codes "node") ms)) (fault.Field 0 0 column.Other) tables (value_valid (get_member (codes "node") ms) tables) h

pub tables_of-valid : (text : List ℕ) (tables : List Table) → tables_of text ≡ Ok tables → All Valid tables
unfolding tables_of
tables_of-valid text tables h = document_valid (document_of text) tables h

-- ---- tables that no file wrote

pub empty-valid : IsValid []
empty-valid = record { apart = λ i j d less within. absurd (omega arith); limit = omega arith }

one-valid : (r : Row) → IsValid (r ∷ [])
one-valid r = record { apart = λ i j d less within. absurd (omega arith); limit = omega arith }

pub shared-valid : (a b : Address) (algorithm : Algorithm) (master : List ℕ) → All Valid (shared_tables a b algorithm master)
shared-valid a b algorithm master =
    let r = shared_row algorithm master in
    let at_a : Table = record { name = codes "a"; address = a; rows = r ∷ [] } in
    let at_b : Table = record { name = codes "b"; address = b; rows = r ∷ [] } in
    all_cons Valid at_a (at_b ∷ []) (one-valid r) (all_cons Valid at_b [] (one-valid r) none_valid)
