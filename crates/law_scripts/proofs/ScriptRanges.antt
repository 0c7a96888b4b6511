-- A script that a text says is one of the grammar.
use Rattle.std.proofs.Common.{◌≡◌, ℕ, ◌+◌, ◌≤◌, cond, nat_lt, Bool, true, false, List, [], ◌∷◌, ◌++◌, length, map, codes, Option, Some, None}
use Rattle.std.proofs.Common.{Result, Ok, Err, refl, ap, subst, ◌∙◌, arith}
use Rattle.std.proofs.lemmas.Bool.{ltb-false}
use Rattle.std.proofs.lemmas.List.{length-append, length-map}
use Rattle.book_base.specs.declared.address.Socket.{Socket}
use Rattle.book_lines.specs.declared.line_kind.LineKind.{LineKind}
use Rattle.book_lines.specs.declared.line_kind.LineKind.TheVariants as kind
use Rattle.book_base.specs.Lines.{lines_of}
use Rattle.book_lines.specs.declared.text_fault.TextFault.{TextFault}
use Rattle.book_lines.specs.declared.text_fault.TextFault.TheVariants as fault
use Rattle.book_lines.specs.Lines.{Line, saying_from}
use Rattle.book_lines.specs.Words.{Taken, address_in, algorithm_in, sized_hex_in, literal_in, nothing_in, number_in, socket_in}
use Rattle.book_cmd_link.specs.declared.script.SharedKey.{SharedKey}
use Rattle.book_cmd_link.specs.declared.script.Script.{Script}
use Rattle.book_cmd_link.specs.LinkEvents.{link_event_of}
use Rattle.book_cmd_link.specs.declared.script.KeysFrom.{KeysFrom}
use Rattle.book_cmd_link.specs.LinkFiles.{Head, Left, at_line, events_of, link_head_in, key_in, line_in, peer_socket_of}
use Rattle.book_segments.specs.Sockets.{are_two_of_a_family}
use Rattle.book_cmd_link.specs.declared.script.KeysFrom.TheVariants as keys_from
use Rattle.book_cmd_link.specs.LinkFiles.{keys_by, script_in, script_of, shared_key_of, socket_of, title_of}
use Rattle.book_lines.proofs.SayingLaws.{saying_length}
use Rattle.law_scripts.specs.Printed.{event_words, key_lines, script_lines}
use Rattle.law_scripts.specs.Scripts.{IsEvent, IsKey, IsScript, IsSocket}
use Rattle.law_scripts.proofs.WordRanges.{bind_ok, address_ok, hex_ok, number_ok}
use Rattle.law_scripts.proofs.EventRanges.{event_ok}
use Rattle.law_scripts.proofs.EventLines.{events_ok}

socket_in_ok : (ws : List (List ℕ)) (t : Taken Socket) → socket_in ws ≡ Ok t → IsSocket t.value
unfolding socket_in
socket_in_ok ws t h =
    let a = bind_ok (address_in ws) _ t h in
    let p = bind_ok (number_in 0 65535 a.0.rest) _ t a.2 in
    let is : record { value = record { address = a.0.value; port = p.0.value }; rest = p.0.rest } ≡ t = cc p.2 in
    rw (← is) (record { address = address_ok ws a.0 a.1; port = (number_ok 0 65535 a.0.rest p.0 p.1).most })

socket_ok : (end : List ℕ) (ws : List (List ℕ)) (s : Socket) → socket_of end ws ≡ Ok s → IsSocket s
unfolding socket_of
socket_ok end ws s h =
    let l = bind_ok (literal_in end ws) _ s h in
    let k = bind_ok (socket_in l.0.rest) _ s l.2 in
    let n = bind_ok (nothing_in k.0.rest) _ s k.2 in
    let is : k.0.value ≡ s = cc n.2 in
    rw (← is) (socket_in_ok l.0.rest k.0 k.1)

passed : {A : Type 0} (b : Bool) (x y : A) → cond b (Ok x) (Err kind.Word) ≡ Ok y → (b ≡ true) × (x ≡ y)
passed true x y h = (refl, cc h)
passed false x y h = absurd (cc h)

peer_ok : (a : Socket) (ws : List (List ℕ)) (b : Socket) → peer_socket_of a ws ≡ Ok b → IsSocket b × (are_two_of_a_family a.address b.address ≡ true)
unfolding peer_socket_of
peer_ok a ws b h =
    let s = bind_ok (socket_of (codes "b") ws) (λ x. cond (are_two_of_a_family a.address x.address) (Ok x) (Err kind.Word)) b h in
    let c = passed (are_two_of_a_family a.address s.0.address) s.0 b s.2 in
    let P : Socket → Type 0 = λ y. IsSocket y × (are_two_of_a_family a.address y.address ≡ true) in
    subst P c.1 (socket_ok (codes "b") ws s.0 s.1, c.0)

key_ok : (ws : List (List ℕ)) (k : SharedKey) → shared_key_of ws ≡ Ok k → IsKey (Some k)
unfolding shared_key_of
key_ok ws k h =
    let l = bind_ok (literal_in (codes "shared") ws) _ k h in
    let a = bind_ok (algorithm_in l.0.rest) _ k l.2 in
    let m = bind_ok (sized_hex_in 1 255 a.0.rest) _ k a.2 in
    let n = bind_ok (nothing_in m.0.rest) _ k m.2 in
    let is : record { alg = a.0.value; master = m.0.value } ≡ k = cc n.2 in
    rw (← is) (hex_ok 1 255 a.0.rest m.0 m.1)

pub at_line_ok : {A : Type 0} (n : ℕ) (kind : LineKind) (ls : List Line) (r : Result A LineKind) (t : Left A) → at_line n kind ls r ≡ Ok t →
    (r ≡ Ok t.value) × (ls ≡ t.rest)
at_line_ok n kind ls (Ok x) t h =
    let is : record { value = x; rest = ls } ≡ t = cc h in
    (ap (λ (y : Left _). Ok y.value) is, ap (λ (y : Left _). y.rest) is)
at_line_ok n kind ls (Err e) t h = absurd (cc h)

-- a line was there and says the value
pub line_ok : {A : Type 0} (missing : ℕ) (kind : LineKind) (meaning : List (List ℕ) → Result A LineKind) (ls : List Line) (t : Left A) →
    line_in missing kind meaning ls ≡ Ok t →
    (ws : List (List ℕ)) × (meaning ws ≡ Ok t.value) × (length ls ≡ 1 + length t.rest)
unfolding line_in
line_ok missing kind meaning [] t h = absurd (cc h)
line_ok missing kind meaning (l ∷ ls) t h =
    let a = at_line_ok l.number kind ls (meaning l.words) t h in
    (l.words, a.0, rw (← a.1) (omega arith))

-- the head of a script that is one of the grammar, and how many lines it took
pub record IsHead (h : Head) (before after : ℕ) : Type 0 where
  pub a : IsSocket h.a
  pub b : IsSocket h.b
  pub two : are_two_of_a_family h.a.address h.b.address ≡ true
  pub three : before ≡ 3 + after

pub head_ok : (missing : ℕ) (ls : List Line) (t : Left Head) → link_head_in missing ls ≡ Ok t → IsHead t.value (length ls) (length t.rest)
unfolding link_head_in
head_ok missing ls t h =
    let i = bind_ok (line_in missing kind.Header (title_of (codes "aotcp-link")) ls) _ t h in
    let a = bind_ok (line_in missing kind.Header (socket_of (codes "a")) i.0.rest) _ t i.2 in
    let b = bind_ok (line_in missing kind.Header (peer_socket_of a.0.value) a.0.rest) _ t a.2 in
    let li = line_ok missing kind.Header (title_of (codes "aotcp-link")) ls i.0 i.1 in
    let la = line_ok missing kind.Header (socket_of (codes "a")) i.0.rest a.0 a.1 in
    let lb = line_ok missing kind.Header (peer_socket_of a.0.value) a.0.rest b.0 b.1 in
    let p = peer_ok a.0.value lb.0 b.0.value lb.1 in
    let is : record { value = record { a = a.0.value; b = b.0.value }; rest = b.0.rest } ≡ t = cc b.2 in
    rw (← is) (record { a = socket_ok (codes "a") la.0 a.0.value la.1; b = p.0; two = p.1; three = omega (arith, li.2, la.2, lb.2) })

key_lines_ok : (keys : KeysFrom) (missing : ℕ) (ls : List Line) (t : Left (Option SharedKey)) → key_in keys missing ls ≡ Ok t →
    IsKey t.value × (length ls ≡ length (key_lines t.value) + length t.rest) × (keys_by t.value ≡ keys)
unfolding key_in key_lines
key_lines_ok keys_from.KeyFile missing ls t h =
    let is : record { value = None; rest = ls } ≡ t = cc h in
    rw (← is) (tt, omega arith, refl)
key_lines_ok keys_from.LinkFile missing ls t h =
    let k = bind_ok (line_in missing kind.Shared shared_key_of ls) _ t h in
    let l = line_ok missing kind.Shared shared_key_of ls k.0 k.1 in
    let is : record { value = Some k.0.value; rest = k.0.rest } ≡ t = cc k.2 in
    rw (← is) (key_ok l.0 k.0.value l.1, l.2, refl)

script_in_ok : (keys : KeysFrom) (missing : ℕ) (ls : List Line) (s : Script) → length ls ≤ 20000 → script_in keys missing ls ≡ Ok s →
    IsScript s × (keys_by s.shared ≡ keys)
unfolding script_in script_lines
script_in_ok keys missing ls s few h =
    let t = bind_ok (link_head_in missing ls) _ s h in
    let k = bind_ok (key_in keys missing t.0.rest) _ s t.2 in
    let e = bind_ok (events_of link_event_of k.0.rest) _ s k.2 in
    let lh = head_ok missing ls t.0 t.1 in
    let lk = key_lines_ok keys missing t.0.rest k.0 k.1 in
    let le = events_ok link_event_of IsEvent event_ok k.0.rest e.0 e.1 in
    let is : record { a = t.0.value.a; b = t.0.value.b; shared = k.0.value; events = e.0 } ≡ s = cc e.2 in
    let all : length (key_lines k.0.value ++ map event_words e.0) ≡ length (key_lines k.0.value) + length e.0 =
    length-append (key_lines k.0.value) (map event_words e.0) ∙ ap (λ n. length (key_lines k.0.value) + n) (length-map e.0 event_words) in
    rw (← is) (record { a = lh.a; b = lh.b; two = lh.two; key = lk.0; events = le.0; lines = omega (arith, lh.three, lk.1, le.1, all, few) }, lk.2)

pub few_case : {A : Type 0} (b : Bool) (r : Result A TextFault) (x : A) → cond b (Err fault.TooManyLines) r ≡ Ok x → (b ≡ false) × (r ≡ Ok x)
few_case true r x h = absurd (cc h)
few_case false r x h = (refl, h)

-- a script that is read is one of the grammar, and has a shared key where there is no key file
pub script_of_ok : (keys : KeysFrom) (text : List ℕ) (s : Script) → script_of keys text ≡ Ok s → IsScript s × (keys_by s.shared ≡ keys)
unfolding script_of
script_of_ok keys text s h =
    let c = few_case (nat_lt 20000 (length (lines_of text))) _ s h in
    let few : length (lines_of text) ≤ 20000 = ltb-false _ _ c.0 in
    script_in_ok keys (length (lines_of text) + 1) (saying_from 1 (lines_of text)) s (omega (arith, saying_length 1 (lines_of text))) c.1
