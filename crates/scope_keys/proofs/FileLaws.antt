-- Findings and rows one after the other, as loops go over them, and what is reported of a file.
use Rattle.std.proofs.Common.{◌≡◌, ℕ, suc, ◌+◌, ◌-◌, ◌<◌, ◌≤◌, Bool, false, not, List, [], ◌∷◌, ◌++◌, Option, Some, None, Result, Ok, Err, length, drop, get_or, refl, sym, ap, ◌∙◌, append_assoc, ◌↔◌, arith, add-one, subst}
use Rattle.std.specs.Prelude.{IsOk, flat_map, true, ◌==◌}
use Rattle.std.proofs.lemmas.Bool.Decides.{nat_tests}
use Rattle.std.proofs.lemmas.List.{append-nil, drop_all}
use Rattle.std.proofs.Math.Seq.{drop-cons}
use Rattle.toml.specs.Data.{Members}
use Rattle.toml.specs.View.{items_view, view}
use Rattle.toml.specs.declared.value.Value.{Value}
use Rattle.toml.proofs.Views.{items_view-drop}
use Rattle.book_base.specs.declared.address.Address.{Address}
use Rattle.book_keys.specs.declared.fault.TableFault.{TableFault}
use Rattle.book_keys.specs.declared.fault.TableFault.TheVariants as fault
use Rattle.book_keys.specs.Nodes.{document_of, tables_of, tables_of_document}
use Rattle.book_keys.specs.Reading.{Fails}
use Rattle.book_keys.specs.Rows.{Table}
use Rattle.book_scope_texts.specs.declared.finding.KeyFinding.{KeyFinding}
use Rattle.book_scope_texts.specs.declared.finding.TomlFault.{TomlFault}
use Rattle.book_scope_texts.specs.FileFindings.{addresses_with, field_findings, first_or_further, has_nodes, key_findings, key_place, key_report, key_report_of, names_with, no_faults_line, no_nodes_line, node_findings, nodes_findings_from, refused_findings, row_total, rows_findings_from, syntax_line, tables_line}
use Rattle.book_scope_texts.specs.Places.{key_finding_line}
use Rattle.book_scope_texts.specs.RowFindings.{row_findings}
use Rattle.book_scope_texts.proofs.WalkLaws.{findings_exact}
use Rattle.scope_keys.specs.Reports.{is_memory}

-- one row more
pub one_row : (n : ℕ) (name : List ℕ) (before after whole : List KeyFinding) (vs : List Value) (i : ℕ) (v : Value) → i < length vs → v ≡ get_or vs i v →
    after ≡ before ++ row_findings (key_place n (i + 1) name) (view v) → before ++ rows_findings_from n (i + 1) name (items_view (drop i vs)) ≡ whole →
    after ++ rows_findings_from n (i + 1 + 1) name (items_view (drop (i + 1) vs)) ≡ whole
one_row n name before after whole vs i v within here is so_far =
    rw is (append_assoc before (row_findings (key_place n (i + 1) name) (view v)) (rows_findings_from n (i + 1 + 1) name (items_view (drop (i + 1) vs)))
    ∙ (rw (items_view-drop vs i v within, ← here) at so_far))

-- no row is left
pub no_row : (n : ℕ) (name : List ℕ) (before whole : List KeyFinding) (vs : List Value) (i : ℕ) → length vs ≤ i →
    before ++ rows_findings_from n (i + 1) name (items_view (drop i vs)) ≡ whole → before ≡ whole
no_row n name before whole vs i all so_far = let none : drop i vs ≡ [] = drop_all i vs all in sym (append-nil before) ∙ (rw none at so_far)

-- one node more
pub one_node : (names : List (List ℕ)) (seen : List Address) (next_names : List (List ℕ)) (next_seen : List Address) (before after whole : List KeyFinding) (vs : List Value) (i : ℕ) (v : Value)
    → i < length vs → v ≡ get_or vs i v → next_names ≡ names_with names (view v) → next_seen ≡ addresses_with seen (view v) →
    after ≡ before ++ node_findings (i + 1) names seen (view v) → before ++ nodes_findings_from (i + 1) names seen (items_view (drop i vs)) ≡ whole →
    after ++ nodes_findings_from (i + 1 + 1) next_names next_seen (items_view (drop (i + 1) vs)) ≡ whole
unfolding nodes_findings_from
one_node names seen next_names next_seen before after whole vs i v within here named addressed is so_far =
    rw (is, named, addressed) (append_assoc before (node_findings (i + 1) names seen (view v)) (nodes_findings_from (i + 1 + 1) (names_with names (view v)) (addresses_with seen (view v)) (items_view (drop (i + 1) vs)))
    ∙ (rw (items_view-drop vs i v within, ← here) at so_far))

-- no node is left
pub no_node : (names : List (List ℕ)) (seen : List Address) (before whole : List KeyFinding) (vs : List Value) (i : ℕ) → length vs ≤ i →
    before ++ nodes_findings_from (i + 1) names seen (items_view (drop i vs)) ≡ whole → before ≡ whole
unfolding nodes_findings_from
no_node names seen before whole vs i all so_far = let none : drop i vs ≡ [] = drop_all i vs all in sym (append-nil before) ∙ (rw none at so_far)

-- a fault that isn't want of memory is the one that reading gives
pub fails_is : {A : Type 0} (e : TableFault) (r : Result A TableFault) → is_memory e ≡ false → Fails e r → r ≡ Err e
fails_is fault.Memory r other h = absurd (cc)
fails_is fault.Syntax r other h = h
fails_is (fault.Field n row c) r other h = h
fails_is (fault.TooMany n) r other h = h
fails_is (fault.Overlap n one two) r other h = h

-- what is found in a document that has a fault
pub found_of : (text : List ℕ) (ms : Members) (e : TableFault) → document_of text ≡ Some ms → tables_of text ≡ Err e →
    key_findings text ≡ first_or_further (field_findings ms) (refused_findings ms (Err e))
unfolding key_findings
found_of text ms e is refused = rw (is, refused) refl

-- the lines of what is found
pub text_found : (text : List ℕ) (ms : Members) (e : TableFault) (start written : List ℕ) (shown found : List KeyFinding) → start ≡ [] → shown ≡ found →
    found ≡ first_or_further (field_findings ms) (refused_findings ms (Err e)) → document_of text ≡ Some ms → tables_of text ≡ Err e →
    written ≡ start ++ flat_map (key_finding_line text) shown → written ≡ flat_map (key_finding_line text) (key_findings text)
text_found text ms e start written shown found none same is document refused put = rw (put, none, same, is, found_of text ms e document refused) refl

-- the report of a file with a fault
report_by : (why : TomlFault) (text : List ℕ) (r : Result (List Table) TableFault) (e : TableFault) → (e ≡ fault.Syntax → ⊥) → r ≡ Err e → key_report_of 0 why text r ≡ flat_map (key_finding_line text) (key_findings text)
report_by why text r fault.Memory other is = rw is refl
report_by why text r fault.Syntax other is = absurd (other refl)
report_by why text r (fault.Field n row c) other is = rw is refl
report_by why text r (fault.TooMany n) other is = rw is refl
report_by why text r (fault.Overlap n one two) other is = rw is refl

no_syntax : (text : List ℕ) (ms : Members) (e : TableFault) → document_of text ≡ Some ms → ((tables_of text ≡ Err fault.Syntax) ↔ (document_of text ≡ None)) → tables_of text ≡ Err e → e ≡ fault.Syntax → ⊥
no_syntax text ms e is only refused syntax = let none : document_of text ≡ None = only.0 (refused ∙ ap (λ (f : TableFault). Err f) syntax) in let both : ◌≡◌ {A = Option Members} (Some ms) None = sym is ∙ none in absurd (cc)

pub report_faulty : (why : TomlFault) (text : List ℕ) (ms : Members) (e : TableFault) → document_of text ≡ Some ms → ((tables_of text ≡ Err fault.Syntax) ↔ (document_of text ≡ None)) → tables_of text ≡ Err e →
    key_report 0 why text ≡ flat_map (key_finding_line text) (key_findings text)
unfolding key_report
report_faulty why text ms e is only refused = report_by why text (tables_of text) e (no_syntax text ms e is only refused) refused

-- the report of a file that is read
pub report_good : (why : TomlFault) (text : List ℕ) (ts : List Table) → tables_of text ≡ Ok ts → key_report 0 why text ≡ tables_line ts
unfolding key_report
report_good why text ts is = rw is refl

-- the report of a text that is no document
pub report_syntax : (i : ℕ) (why : TomlFault) (text : List ℕ) → document_of text ≡ None → key_report i why text ≡ syntax_line i why text
unfolding key_report tables_of tables_of_document
report_syntax i why text is = rw is refl

pub none_tables : (text : List ℕ) → document_of text ≡ None → has_nodes (tables_of text) ≡ false
unfolding tables_of tables_of_document
none_tables text is = rw is refl

-- whether something is amiss, by whether a file is read and has a node
by_nodes : (amiss : Bool) (r : Result (List Table) TableFault) → amiss ≡ not (has_nodes r) → (amiss ≡ false) ↔ (has_nodes r ≡ true)
by_nodes amiss (Ok []) is = ((λ h. absurd (cc)), (λ h. absurd (cc)))
by_nodes amiss (Ok (t ∷ ts)) is = ((λ h. refl), (λ h. is))
by_nodes amiss (Err e) is = ((λ h. absurd (cc)), (λ h. absurd (cc)))

nodes_read : (r : Result (List Table) TableFault) → has_nodes r ≡ true → IsOk r
nodes_read (Ok ts) h = refl
nodes_read (Err e) h = absurd (cc)

pub amiss_by : (amiss : Bool) (text : List ℕ) → amiss ≡ not (has_nodes (tables_of text)) → (amiss ≡ false) ↔ (has_nodes (tables_of text) ≡ true)
amiss_by amiss text is = by_nodes amiss (tables_of text) is

pub is_accepted : (amiss : Bool) (text : List ℕ) → amiss ≡ not (has_nodes (tables_of text)) → amiss ≡ false → IsOk (tables_of text)
is_accepted amiss text is h = nodes_read (tables_of text) ((by_nodes amiss (tables_of text) is).0 h)

pub is_faultless : (amiss : Bool) (text : List ℕ) → amiss ≡ not (has_nodes (tables_of text)) → amiss ≡ false → key_findings text ≡ []
is_faultless amiss text is h = (findings_exact text).1 (is_accepted amiss text is h)

-- the line of a file that has a node, and of one that has none
pub with_nodes : (ts : List Table) → has_nodes (Ok ts) ≡ true → tables_line ts ≡ no_faults_line ts
with_nodes [] h = absurd (cc)
with_nodes (t ∷ ts) h = refl

pub without_nodes : (ts : List Table) → has_nodes (Ok ts) ≡ false → tables_line ts ≡ no_nodes_line
without_nodes [] h = refl
without_nodes (t ∷ ts) h = absurd (cc)

pub nodes_there : (ts : List Table) → not (length ts == 0) ≡ has_nodes (Ok ts)
nodes_there [] = refl
nodes_there (t ∷ ts) = grind (arith, nat_tests)

pub good_amiss : (ts : List Table) (r : Result (List Table) TableFault) (b : Bool) → r ≡ Ok ts → b ≡ has_nodes (Ok ts) → not b ≡ not (has_nodes r)
good_amiss ts r b is same = rw (is, same) refl

-- the rows of one table more
pub total_more : (tables : List Table) (i : ℕ) (table : Table) (total counted : ℕ) → i < length tables → ((d : Table) → table ≡ get_or tables (i + 1 - 1) d) → counted ≡ length table.rows →
    total + row_total (drop i tables) ≡ row_total tables → total + counted + row_total (drop (i + 1) tables) ≡ row_total tables
total_more tables i table total counted low here is so_far =
    let place : i + 1 - 1 ≡ i = omega arith in
    let at : table ≡ get_or tables i table = subst (λ (k : ℕ). table ≡ get_or tables k table) place (here table) in
    let cut : drop i tables ≡ table ∷ drop (i + 1) tables = rw (add-one i) (drop-cons tables i table low ∙ ap (λ x. x ∷ drop (suc i) tables) (sym at)) in
    let summed : total + (length table.rows + row_total (drop (i + 1) tables)) ≡ row_total tables = rw cut at so_far in
    omega (arith, is, summed)

-- no table is left
pub total_done : (tables : List Table) (i total : ℕ) → length tables ≤ i → total + row_total (drop i tables) ≡ row_total tables → total ≡ row_total tables
total_done tables i total all so_far = let none : drop i tables ≡ [] = drop_all i tables all in let summed : total + 0 ≡ row_total tables = rw none at so_far in omega (arith, summed)
