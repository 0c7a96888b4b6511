-- A script with waits that a text says is one of the grammar.
use Rattle.std.proofs.Common.{◌≡◌, ℕ, ◌+◌, ◌≤◌, cond, nat_lt, Bool, true, false, List, ◌∷◌, length, codes}
use Rattle.std.proofs.Common.{Ok, arith}
use Rattle.std.specs.Str.{bytes_eq}
use Rattle.std.proofs.lemmas.Bool.{ltb-false}
use Rattle.book_base.specs.Lines.{lines_of}
use Rattle.book_lines.specs.Lines.{Line, saying_from}
use Rattle.book_lines.specs.Words.{end_in, nothing_in, number_in, word_in}
use Rattle.book_cmd_link.specs.declared.timed.TimedEvent.{TimedEvent}
use Rattle.book_cmd_link.specs.declared.timed.TimedEvent.TheVariants.{Plain, Wait}
use Rattle.book_cmd_link.specs.declared.timed.TimedScript.{TimedScript}
use Rattle.book_cmd_link.specs.LinkEvents.{event_named, link_event_of}
use Rattle.book_cmd_link.specs.LinkFiles.{events_of, link_head_in}
use Rattle.book_cmd_link.specs.TimedRuns.{plain_named, timed_event_of, timed_script_in, timed_script_of, wait_of}
use Rattle.book_lines.proofs.SayingLaws.{saying_length}
use Rattle.law_scripts.specs.Timed.{IsTimedEvent, IsTimedScript}
use Rattle.law_scripts.proofs.WordRanges.{bind_ok, number_ok}
use Rattle.law_scripts.proofs.EventRanges.{event_ok}
use Rattle.law_scripts.proofs.EventLines.{events_ok}
use Rattle.law_scripts.proofs.ScriptRanges.{few_case, head_ok}

wait_ok : (ws : List (List ℕ)) (x : TimedEvent) → wait_of ws ≡ Ok x → IsTimedEvent x
unfolding wait_of
wait_ok ws x h =
    let e = bind_ok (end_in ws) _ x h in
    let k = bind_ok (number_in 1 3600 e.0.rest) _ x e.2 in
    let n = bind_ok (nothing_in k.0.rest) _ x k.2 in
    let is : Wait e.0.value k.0.value ≡ x = cc n.2 in
    rw (← is) (number_ok 1 3600 e.0.rest k.0 k.1)

plain_ok : (name : List ℕ) (ws : List (List ℕ)) (x : TimedEvent) → plain_named name ws ≡ Ok x → IsTimedEvent x
unfolding link_event_of word_in
plain_ok name ws x h =
    let e = bind_ok (event_named name ws) (λ y. Ok (Plain y)) x h in
    let is : Plain e.0 ≡ x = cc e.2 in
    rw (← is) (event_ok (name ∷ ws) e.0 e.1)

either_ok : (b : Bool) (name : List ℕ) (ws : List (List ℕ)) (x : TimedEvent) → cond b (wait_of ws) (plain_named name ws) ≡ Ok x → IsTimedEvent x
either_ok true name ws x h = wait_ok ws x h
either_ok false name ws x h = plain_ok name ws x h

timed_ok : (ws : List (List ℕ)) (x : TimedEvent) → timed_event_of ws ≡ Ok x → IsTimedEvent x
unfolding timed_event_of
timed_ok ws x h =
    let w = bind_ok (word_in ws) (λ name. cond (bytes_eq name.value (codes "wait")) (wait_of name.rest) (plain_named name.value name.rest)) x h in
    either_ok (bytes_eq w.0.value (codes "wait")) w.0.value w.0.rest x w.2

script_in_ok : (missing : ℕ) (ls : List Line) (s : TimedScript) → length ls ≤ 20000 → timed_script_in missing ls ≡ Ok s → IsTimedScript s
unfolding timed_script_in
script_in_ok missing ls s few h =
    let t = bind_ok (link_head_in missing ls) _ s h in
    let e = bind_ok (events_of timed_event_of t.0.rest) _ s t.2 in
    let lh = head_ok missing ls t.0 t.1 in
    let le = events_ok timed_event_of IsTimedEvent timed_ok t.0.rest e.0 e.1 in
    let is : record { a = t.0.value.a; b = t.0.value.b; events = e.0 } ≡ s = cc e.2 in
    rw (← is) (record { a = lh.a; b = lh.b; two = lh.two; events = le.0; lines = omega (arith, lh.three, le.1, few) })

-- a script that is read is one of the grammar
pub timed_script_ok : (text : List ℕ) (s : TimedScript) → timed_script_of text ≡ Ok s → IsTimedScript s
unfolding timed_script_of
timed_script_ok text s h =
    let c = few_case (nat_lt 20000 (length (lines_of text))) _ s h in
    let few : length (lines_of text) ≤ 20000 = ltb-false _ _ c.0 in
    script_in_ok (length (lines_of text) + 1) (saying_from 1 (lines_of text)) s (omega (arith, saying_length 1 (lines_of text))) c.1
