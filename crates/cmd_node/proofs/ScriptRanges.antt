-- A script that a text says is one of the grammar.
use Rattle.std.proofs.Common.{◌≡◌, ℕ, zero, suc, ◌+◌, ◌≤◌, cond, nat_lt, Bool, true, false, List, [], ◌∷◌, length, codes}
use Rattle.std.proofs.Common.{Result, Ok, Err, refl, ap, ◌∙◌, arith, All}
use Rattle.std.proofs.lemmas.Bool.{ltb-false}
use Rattle.book_base.specs.declared.address.Address.{Address}
use Rattle.book_lines.specs.declared.line_kind.LineKind.{LineKind}
use Rattle.book_lines.specs.declared.line_kind.LineKind.TheVariants as kind
use Rattle.book_base.specs.Lines.{lines_of}
use Rattle.book_lines.specs.declared.text_fault.TextFault.{TextFault}
use Rattle.book_lines.specs.declared.text_fault.TextFault.TheVariants as fault
use Rattle.book_lines.specs.Lines.{Line, saying_from}
use Rattle.book_lines.specs.Said.{at_number}
use Rattle.book_lines.specs.Words.{address_in, literal_in, nothing_in}
use Rattle.book_cmd_node.specs.declared.node.NodeEvent.{NodeEvent}
use Rattle.book_cmd_node.specs.declared.node.NodeScript.{NodeScript}
use Rattle.book_cmd_link.specs.LinkFiles.{Left, at_line, line_in, title_of}
use Rattle.book_cmd_node.specs.NodeRuns.{own_address_of, node_event_of, node_events_of, node_script_in, node_script_of}
use Rattle.book_lines.proofs.SayingLaws.{saying_length}
use Rattle.law_scripts.specs.Scripts.{IsAddress}
use Rattle.law_scripts.proofs.WordRanges.{bind_ok, address_ok}
use Rattle.law_scripts.proofs.EventLines.{numbered_ok, one_more}
use Rattle.cmd_node.specs.Scripts.{IsEvent, IsScript}
use Rattle.cmd_node.proofs.EventRanges.{event_ok}
use Rattle.law_scripts.proofs.ScriptRanges.{at_line_ok, few_case, line_ok}

address_of_ok : (ws : List (List ℕ)) (x : Address) → own_address_of ws ≡ Ok x → IsAddress x
address_of_ok ws x h =
    let l = bind_ok (literal_in (codes "node") ws) _ x h in
    let a = bind_ok (address_in l.0.rest) _ x l.2 in
    let n = bind_ok (nothing_in a.0.rest) _ x a.2 in
    let is : a.0.value ≡ x = cc n.2 in
    rw (← is) (address_ok l.0.rest a.0 a.1)

events_ok : (own : Address) (ls : List Line) (es : List NodeEvent) → node_events_of own ls ≡ Ok es → All (IsEvent own) es × (length es ≡ length ls)
unfolding node_events_of
events_ok own [] es h = let is : [] ≡ es = cc h in rw (← is) ((λ n d below. absurd (omega arith)), refl)
events_ok own (l ∷ ls) es h =
    let e = bind_ok (at_number l.number (node_event_of own l.words)) _ es h in
    let others = bind_ok (node_events_of own ls) _ es e.2 in
    let more = events_ok own ls others.0 others.1 in
    let is : e.0 ∷ others.0 ≡ es = cc others.2 in
    rw (← is) (one_more (IsEvent own) e.0 others.0 (event_ok own l.words e.0 (numbered_ok l.number (node_event_of own l.words) e.0 e.1)) more.0, omega (arith, more.1))

script_in_ok : (missing : ℕ) (ls : List Line) (s : NodeScript) → length ls ≤ 20000 → node_script_in missing ls ≡ Ok s → IsScript s
unfolding node_script_in
script_in_ok missing ls s few h =
    let i = bind_ok (line_in missing kind.Header (title_of (codes "aotcp-node")) ls) _ s h in
    let a = bind_ok (line_in missing kind.Header own_address_of i.0.rest) _ s i.2 in
    let e = bind_ok (node_events_of a.0.value a.0.rest) _ s a.2 in
    let li = line_ok missing kind.Header (title_of (codes "aotcp-node")) ls i.0 i.1 in
    let la = line_ok missing kind.Header own_address_of i.0.rest a.0 a.1 in
    let le = events_ok a.0.value a.0.rest e.0 e.1 in
    let is : record { address = a.0.value; events = e.0 } ≡ s = cc e.2 in
    rw (← is) (record { address = address_of_ok la.0 a.0.value la.1; events = le.0; lines = omega (arith, li.2, la.2, le.1, few) })

-- a script that is read is one of the grammar
pub script_of_ok : (text : List ℕ) (s : NodeScript) → node_script_of text ≡ Ok s → IsScript s
unfolding node_script_of
script_of_ok text s h =
    let c = few_case (nat_lt 20000 (length (lines_of text))) _ s h in
    let few : length (lines_of text) ≤ 20000 = ltb-false _ _ c.0 in
    script_in_ok (length (lines_of text) + 1) (saying_from 1 (lines_of text)) s (omega (arith, saying_length 1 (lines_of text))) c.1
