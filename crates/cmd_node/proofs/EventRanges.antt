-- An event that a line says has its connection, numbers and lengths in their ranges.
use Rattle.std.proofs.Common.{◌≡◌, ℕ, ◌≤◌, cond, Bool, true, false, List, [], ◌∷◌, codes, Result, Ok, Err, refl}
use Rattle.std.specs.Str.{bytes_eq}
use Rattle.book_base.specs.declared.address.Address.{Address}
use Rattle.book_base.specs.declared.address.Pair.{Pair}
use Rattle.book_lines.specs.declared.line_kind.LineKind.{LineKind}
use Rattle.book_lines.specs.declared.line_kind.LineKind.TheVariants.{Range}
use Rattle.book_keys.specs.Lifetimes.{greatest_time}
use Rattle.book_lines.specs.Words.{Taken, word_in, nothing_in, address_in, number_in, sized_hex_in, some_hex_in}
use Rattle.book_base.specs.Results.{◌>>=◌}
use Rattle.book_cmd_node.specs.declared.node.Act.{Act}
use Rattle.book_cmd_node.specs.declared.node.Act.TheVariants as act
use Rattle.book_cmd_node.specs.declared.node.NodeEvent.{NodeEvent}
use Rattle.book_cmd_node.specs.declared.node.NodeEvent.TheVariants as event
use Rattle.book_cmd_link.specs.LinkEvents.{greatest_isn}
use Rattle.book_segments.specs.Sockets.{are_two_of_a_family}
use Rattle.book_cmd_node.specs.NodeRuns.{pair_in, act_alone, act_number, act_start, act_give, clock_of, node_inject_of, node_event_named, node_event_of}
use Rattle.law_scripts.proofs.WordRanges.{bind_ok, address_ok, number_ok, hex_ok, some_hex_ok}
use Rattle.cmd_node.specs.Scripts.{IsAct, IsEvent, IsPair}

far_case : (b : Bool) (x y : Address) → cond b (Ok x) (Err Range) ≡ Ok y → (b ≡ true) × (x ≡ y)
far_case true x y h = (refl, cc h)
far_case false x y h = absurd (cc h)

pair_ok : (own : Address) (ws : List (List ℕ)) (t : Taken Pair) → pair_in own ws ≡ Ok t → IsPair own t.value
pair_ok own ws t h =
    let l = bind_ok (number_in 0 65535 ws) _ t h in
    let a = bind_ok (address_in l.0.rest) _ t l.2 in
    let f = bind_ok (cond (are_two_of_a_family own a.0.value) (Ok a.0.value) (Err Range)) _ t a.2 in
    let p = bind_ok (number_in 0 65535 a.0.rest) _ t f.2 in
    let two = far_case (are_two_of_a_family own a.0.value) a.0.value f.0 f.1 in
    let is : record { value = record { local = record { address = own; port = l.0.value }; remote = record { address = f.0; port = p.0.value } }; rest = p.0.rest } ≡ t = cc p.2 in
    rw (← is) (record {
      local = refl;
      local_port = (number_ok 0 65535 ws l.0 l.1).most;
      remote = record { address = rw (← two.1) (address_ok l.0.rest a.0 a.1); port = (number_ok 0 65535 a.0.rest p.0 p.1).most };
      two = rw (← two.1) two.0;
    })

alone_ok : (made : Act) (own : Address) (ws : List (List ℕ)) (x : NodeEvent) → IsAct made → act_alone made own ws ≡ Ok x → IsEvent own x
alone_ok made own ws x ranged h =
    let p = bind_ok (pair_in own ws) _ x h in
    let n = bind_ok (nothing_in p.0.rest) _ x p.2 in
    let is : event.On p.0.value made ≡ x = cc n.2 in
    rw (← is) (pair_ok own ws p.0 p.1, ranged)

acts_ok : (made : ℕ → Act) (high : ℕ) (own : Address) (ws : List (List ℕ)) (x : NodeEvent) → ((n : ℕ) → n ≤ high → IsAct (made n)) →
    act_number made high own ws ≡ Ok x → IsEvent own x
acts_ok made high own ws x ranged h =
    let p = bind_ok (pair_in own ws) _ x h in
    let k = bind_ok (number_in 0 high p.0.rest) _ x p.2 in
    let n = bind_ok (nothing_in k.0.rest) _ x k.2 in
    let is : event.On p.0.value (made k.0.value) ≡ x = cc n.2 in
    rw (← is) (pair_ok own ws p.0 p.1, ranged k.0.value (number_ok 0 high p.0.rest k.0 k.1).most)

start_ok : (own : Address) (ws : List (List ℕ)) (x : NodeEvent) → act_start own ws ≡ Ok x → IsEvent own x
start_ok own ws x h =
    let p = bind_ok (pair_in own ws) _ x h in
    let i = bind_ok (number_in 0 greatest_isn p.0.rest) _ x p.2 in
    let q = bind_ok (number_in 0 greatest_isn i.0.rest) _ x i.2 in
    let n = bind_ok (nothing_in q.0.rest) _ x q.2 in
    let is : event.On p.0.value (act.Start i.0.value q.0.value) ≡ x = cc n.2 in
    rw (← is) (pair_ok own ws p.0 p.1, ((number_ok 0 greatest_isn p.0.rest i.0 i.1).most, (number_ok 0 greatest_isn i.0.rest q.0 q.1).most))

give_ok : (own : Address) (ws : List (List ℕ)) (x : NodeEvent) → act_give own ws ≡ Ok x → IsEvent own x
give_ok own ws x h =
    let p = bind_ok (pair_in own ws) _ x h in
    let b = bind_ok (some_hex_in p.0.rest) _ x p.2 in
    let n = bind_ok (nothing_in b.0.rest) _ x b.2 in
    let is : event.On p.0.value (act.Give b.0.value) ≡ x = cc n.2 in
    rw (← is) (pair_ok own ws p.0 p.1, some_hex_ok p.0.rest b.0 b.1)

clock_ok : (own : Address) (ws : List (List ℕ)) (x : NodeEvent) → clock_of ws ≡ Ok x → IsEvent own x
clock_ok own ws x h =
    let k = bind_ok (number_in 0 greatest_time ws) _ x h in
    let n = bind_ok (nothing_in k.0.rest) _ x k.2 in
    let is : event.Clock k.0.value ≡ x = cc n.2 in
    rw (← is) (number_ok 0 greatest_time ws k.0 k.1).most

inject_ok : (own : Address) (ws : List (List ℕ)) (x : NodeEvent) → node_inject_of ws ≡ Ok x → IsEvent own x
inject_ok own ws x h =
    let b = bind_ok (sized_hex_in 1 65575 ws) _ x h in
    let n = bind_ok (nothing_in b.0.rest) _ x b.2 in
    let is : event.Inject b.0.value ≡ x = cc n.2 in
    rw (← is) (hex_ok 1 65575 ws b.0 b.1)

either : (b : Bool) (r q : Result NodeEvent LineKind) (x : NodeEvent) (P : Type 0) → (r ≡ Ok x → P) → (q ≡ Ok x → P) → cond b r q ≡ Ok x → P
either true r q x P f g h = f h
either false r q x P f g h = g h

named_ok : (own : Address) (name : List ℕ) (ws : List (List ℕ)) (x : NodeEvent) → node_event_named own name ws ≡ Ok x → IsEvent own x
unfolding node_event_named
named_ok own name ws x =
    either (bytes_eq name (codes "clock")) _ _ x (IsEvent own x) (clock_ok own ws x) (
    either (bytes_eq name (codes "inject")) _ _ x (IsEvent own x) (inject_ok own ws x) (
    either (bytes_eq name (codes "open")) _ _ x (IsEvent own x) (acts_ok act.Open greatest_isn own ws x (λ n h. h)) (
    either (bytes_eq name (codes "listen")) _ _ x (IsEvent own x) (acts_ok act.Listen greatest_isn own ws x (λ n h. h)) (
    either (bytes_eq name (codes "start")) _ _ x (IsEvent own x) (start_ok own ws x) (
    either (bytes_eq name (codes "give")) _ _ x (IsEvent own x) (give_ok own ws x) (
    either (bytes_eq name (codes "take")) _ _ x (IsEvent own x) (acts_ok act.Take 65535 own ws x (λ n h. h)) (
    either (bytes_eq name (codes "send")) _ _ x (IsEvent own x) (alone_ok act.Send own ws x tt) (
    either (bytes_eq name (codes "resend")) _ _ x (IsEvent own x) (alone_ok act.Resend own ws x tt) (
    either (bytes_eq name (codes "close")) _ _ x (IsEvent own x) (alone_ok act.Close own ws x tt) (
    either (bytes_eq name (codes "abort")) _ _ x (IsEvent own x) (alone_ok act.Abort own ws x tt) (
    either (bytes_eq name (codes "remove")) _ _ x (IsEvent own x) (alone_ok act.Remove own ws x tt) (λ h. absurd (cc h)))))))))))))

pub event_ok : (own : Address) (ws : List (List ℕ)) (x : NodeEvent) → node_event_of own ws ≡ Ok x → IsEvent own x
unfolding node_event_of word_in
event_ok own [] x h = absurd (cc h)
event_ok own (w ∷ ws) x h = named_ok own w ws x h
