-- An event that a line says has its numbers and lengths in their ranges.
use Rattle.std.proofs.Common.{◌≡◌, ℕ, ◌≤◌, cond, Bool, true, false, List, [], ◌∷◌, codes, Result, Ok, Err, refl}
use Rattle.std.specs.Str.{bytes_eq}
use Rattle.book_base.specs.declared.end.End.{End}
use Rattle.book_lines.specs.declared.line_kind.LineKind.{LineKind}
use Rattle.book_lines.specs.declared.line_kind.LineKind.TheVariants.{Word}
use Rattle.book_keys.specs.Lifetimes.{greatest_time}
use Rattle.book_lines.specs.Words.{word_as, word_in, nothing_in, choice_in, end_in, algorithm_in, number_in, sized_hex_in, some_hex_in, byte_in}
use Rattle.book_base.specs.Results.{◌>>=◌}
use Rattle.book_link.specs.declared.event.Event.{Event}
use Rattle.book_link.specs.declared.event.Action.{Action}
use Rattle.book_link.specs.declared.event.Event.TheVariants as event
use Rattle.book_link.specs.declared.event.Action.TheVariants as action
use Rattle.book_keys.specs.Columns.{direction_of}
use Rattle.book_cmd_link.specs.LinkEvents.{greatest_isn, most_segments, event_of_end, event_of_number, start_of, give_of, fill_of, inject_of, alter_of, fixing_of}
use Rattle.book_cmd_link.specs.LinkEvents.{add_of, dump_of, event_named, link_event_of}
use Rattle.law_scripts.specs.Scripts.{IsEvent, IsWithin}
use Rattle.law_scripts.proofs.WordRanges.{bind_ok, number_ok, hex_ok, some_hex_ok, byte_ok}

alone_ok : (made : Action) (ws : List (List ℕ)) (x : Event) → ((e : End) → IsEvent (event.At e made)) → event_of_end made ws ≡ Ok x → IsEvent x
alone_ok made ws x ranged h =
    let e = bind_ok (end_in ws) _ x h in
    let n = bind_ok (nothing_in e.0.rest) _ x e.2 in
    let is : event.At e.0.value made ≡ x = cc n.2 in
    rw (← is) (ranged e.0.value)

numbered_ok : (made : ℕ → Action) (low high : ℕ) (ws : List (List ℕ)) (x : Event) → ((e : End) (n : ℕ) → IsWithin low high n → IsEvent (event.At e (made n))) →
    event_of_number made low high ws ≡ Ok x → IsEvent x
numbered_ok made low high ws x ranged h =
    let e = bind_ok (end_in ws) _ x h in
    let k = bind_ok (number_in low high e.0.rest) _ x e.2 in
    let n = bind_ok (nothing_in k.0.rest) _ x k.2 in
    let is : event.At e.0.value (made k.0.value) ≡ x = cc n.2 in
    rw (← is) (ranged e.0.value k.0.value (number_ok low high e.0.rest k.0 k.1))

start_ok : (ws : List (List ℕ)) (x : Event) → start_of ws ≡ Ok x → IsEvent x
unfolding start_of
start_ok ws x h =
    let e = bind_ok (end_in ws) _ x h in
    let o = bind_ok (number_in 0 greatest_isn e.0.rest) _ x e.2 in
    let p = bind_ok (number_in 0 greatest_isn o.0.rest) _ x o.2 in
    let n = bind_ok (nothing_in p.0.rest) _ x p.2 in
    let is : event.At e.0.value (action.Start o.0.value p.0.value) ≡ x = cc n.2 in
    rw (← is) ((number_ok 0 greatest_isn e.0.rest o.0 o.1).most, (number_ok 0 greatest_isn o.0.rest p.0 p.1).most)

give_ok : (ws : List (List ℕ)) (x : Event) → give_of ws ≡ Ok x → IsEvent x
unfolding give_of
give_ok ws x h =
    let e = bind_ok (end_in ws) _ x h in
    let b = bind_ok (some_hex_in e.0.rest) _ x e.2 in
    let n = bind_ok (nothing_in b.0.rest) _ x b.2 in
    let is : event.At e.0.value (action.Give b.0.value) ≡ x = cc n.2 in
    rw (← is) (some_hex_ok e.0.rest b.0 b.1)

fill_ok : (ws : List (List ℕ)) (x : Event) → fill_of ws ≡ Ok x → IsEvent x
unfolding fill_of
fill_ok ws x h =
    let e = bind_ok (end_in ws) _ x h in
    let c = bind_ok (number_in 0 65535 e.0.rest) _ x e.2 in
    let b = bind_ok (byte_in c.0.rest) _ x c.2 in
    let n = bind_ok (nothing_in b.0.rest) _ x b.2 in
    let is : event.At e.0.value (action.Fill c.0.value b.0.value) ≡ x = cc n.2 in
    rw (← is) ((number_ok 0 65535 e.0.rest c.0 c.1).most, byte_ok c.0.rest b.0 b.1)

inject_ok : (ws : List (List ℕ)) (x : Event) → inject_of ws ≡ Ok x → IsEvent x
unfolding inject_of
inject_ok ws x h =
    let e = bind_ok (end_in ws) _ x h in
    let b = bind_ok (sized_hex_in 1 65575 e.0.rest) _ x e.2 in
    let n = bind_ok (nothing_in b.0.rest) _ x b.2 in
    let is : event.At e.0.value (action.Inject b.0.value) ≡ x = cc n.2 in
    rw (← is) (hex_ok 1 65575 e.0.rest b.0 b.1)

alter_ok : (ws : List (List ℕ)) (x : Event) → alter_of ws ≡ Ok x → IsEvent x
unfolding alter_of
alter_ok ws x h =
    let e = bind_ok (end_in ws) _ x h in
    let s = bind_ok (number_in 1 most_segments e.0.rest) _ x e.2 in
    let p = bind_ok (number_in 0 65535 s.0.rest) _ x s.2 in
    let m = bind_ok (byte_in p.0.rest) _ x p.2 in
    let f = bind_ok (word_as fixing_of Word m.0.rest) _ x m.2 in
    let n = bind_ok (nothing_in f.0.rest) _ x f.2 in
    let is : event.At e.0.value (action.Alter s.0.value p.0.value m.0.value f.0.value) ≡ x = cc n.2 in
    rw (← is) (number_ok 1 most_segments e.0.rest s.0 s.1, (number_ok 0 65535 s.0.rest p.0 p.1).most, byte_ok p.0.rest m.0 m.1)

dump_ok : (ws : List (List ℕ)) (x : Event) → dump_of ws ≡ Ok x → IsEvent x
unfolding dump_of
dump_ok ws x h =
    let s = bind_ok (number_in 1 most_segments ws) _ x h in
    let n = bind_ok (nothing_in s.0.rest) _ x s.2 in
    let is : event.Dump s.0.value ≡ x = cc n.2 in
    rw (← is) (number_ok 1 most_segments ws s.0 s.1)

-- what follows of a good reading after another, with a name for what the first one gave
after_ok : {A B F : Type 0} (P : Type 0) (r : Result A F) (f : A → Result B F) (y : B) → (r >>= f) ≡ Ok y → ((x : A) → r ≡ Ok x → f x ≡ Ok y → P) → P
after_ok P (Ok x) f y h next = next x refl h
after_ok P (Err e) f y h next = absurd (cc h)

-- what is made of the two lifetimes of a row, of the words behind its Direction
abbrev lifetimes_of : (ℕ → ℕ → ℕ → ℕ → Event) → List (List ℕ) → Result Event LineKind
lifetimes_of made ws = do
  send_first ← number_in 0 greatest_time ws
  send_last ← number_in send_first.value greatest_time send_first.rest
  accept_first ← number_in 0 greatest_time send_last.rest
  accept_last ← number_in accept_first.value greatest_time accept_first.rest
  none ← nothing_in accept_last.rest
  Ok (made send_first.value send_last.value accept_first.value accept_last.value)

lifetimes_ok : (made : ℕ → ℕ → ℕ → ℕ → Event) (ws : List (List ℕ)) (x : Event) →
    ((sf sl af al : ℕ) → sf ≤ greatest_time → IsWithin sf greatest_time sl → af ≤ greatest_time → IsWithin af greatest_time al → IsEvent (made sf sl af al)) →
    lifetimes_of made ws ≡ Ok x → IsEvent x
lifetimes_ok made ws x ranged h =
    after_ok (IsEvent x) (number_in 0 greatest_time ws) _ x h (λ sf is_sf h1.
    after_ok (IsEvent x) (number_in sf.value greatest_time sf.rest) _ x h1 (λ sl is_sl h2.
    after_ok (IsEvent x) (number_in 0 greatest_time sl.rest) _ x h2 (λ af is_af h3.
    after_ok (IsEvent x) (number_in af.value greatest_time af.rest) _ x h3 (λ al is_al h4.
    after_ok (IsEvent x) (nothing_in al.rest) _ x h4 (λ none is_none h5.
    let is : made sf.value sl.value af.value al.value ≡ x = cc h5 in
    rw (← is) (ranged sf.value sl.value af.value al.value (number_ok 0 greatest_time ws sf is_sf).most (number_ok sf.value greatest_time sf.rest sl is_sl)
    (number_ok 0 greatest_time sl.rest af is_af).most (number_ok af.value greatest_time af.rest al is_al)))))))

add_ok : (ws : List (List ℕ)) (x : Event) → add_of ws ≡ Ok x → IsEvent x
unfolding add_of
add_ok ws x h =
    after_ok (IsEvent x) (end_in ws) _ x h (λ e is_e h1.
    after_ok (IsEvent x) (number_in 0 255 e.rest) _ x h1 (λ recv is_recv h2.
    after_ok (IsEvent x) (number_in 0 255 recv.rest) _ x h2 (λ send is_send h3.
    after_ok (IsEvent x) (algorithm_in send.rest) _ x h3 (λ alg is_alg h4.
    after_ok (IsEvent x) (sized_hex_in 1 255 alg.rest) _ x h4 (λ key is_key h5.
    after_ok (IsEvent x) (choice_in (codes "no-options") (codes "options") key.rest) _ x h5 (λ flag is_flag h6.
    after_ok (IsEvent x) (word_as direction_of Word flag.rest) _ x h6 (λ direction is_direction h7.
    lifetimes_ok (λ sf sl af al. event.At e.value (action.AddRow (record {
      recv_id = recv.value;
      send_id = send.value;
      algorithm = alg.value;
      master = key.value;
      with_options = flag.value;
      direction = direction.value;
      sending = record { first = sf; last = sl };
      accepting = record { first = af; last = al };
    }))) direction.rest x (λ sf sl af al small_sf small_sl small_af small_al. record {
      recv_id = (number_ok 0 255 e.rest recv is_recv).most;
      send_id = (number_ok 0 255 recv.rest send is_send).most;
      master = hex_ok 1 255 alg.rest key is_key;
      sending = record { first = small_sf; last = small_sl };
      accepting = record { first = small_af; last = small_al };
    }) h7)))))))

either : (b : Bool) (r q : Result Event LineKind) (x : Event) (P : Type 0) → (r ≡ Ok x → P) → (q ≡ Ok x → P) → cond b r q ≡ Ok x → P
either true r q x P f g h = f h
either false r q x P f g h = g h

named_ok : (name : List ℕ) (ws : List (List ℕ)) (x : Event) → event_named name ws ≡ Ok x → IsEvent x
unfolding event_named
named_ok name ws x =
    either (bytes_eq name (codes "clock")) _ _ x (IsEvent x) (numbered_ok action.Clock 0 greatest_time ws x (λ e n h. h.most)) (
    either (bytes_eq name (codes "open")) _ _ x (IsEvent x) (numbered_ok action.Connect 0 greatest_isn ws x (λ e n h. h.most)) (
    either (bytes_eq name (codes "listen")) _ _ x (IsEvent x) (numbered_ok action.Listen 0 greatest_isn ws x (λ e n h. h.most)) (
    either (bytes_eq name (codes "start")) _ _ x (IsEvent x) (start_ok ws x) (
    either (bytes_eq name (codes "give")) _ _ x (IsEvent x) (give_ok ws x) (
    either (bytes_eq name (codes "fill")) _ _ x (IsEvent x) (fill_ok ws x) (
    either (bytes_eq name (codes "send")) _ _ x (IsEvent x) (alone_ok action.Send ws x (λ e. tt)) (
    either (bytes_eq name (codes "resend")) _ _ x (IsEvent x) (alone_ok action.Resend ws x (λ e. tt)) (
    either (bytes_eq name (codes "deliver")) _ _ x (IsEvent x) (numbered_ok action.Deliver 1 most_segments ws x (λ e n h. h)) (
    either (bytes_eq name (codes "inject")) _ _ x (IsEvent x) (inject_ok ws x) (
    either (bytes_eq name (codes "alter")) _ _ x (IsEvent x) (alter_ok ws x) (
    either (bytes_eq name (codes "take")) _ _ x (IsEvent x) (numbered_ok action.Take 0 65535 ws x (λ e n h. h.most)) (
    either (bytes_eq name (codes "close")) _ _ x (IsEvent x) (alone_ok action.Close ws x (λ e. tt)) (
    either (bytes_eq name (codes "abort")) _ _ x (IsEvent x) (alone_ok action.Abort ws x (λ e. tt)) (
    either (bytes_eq name (codes "add")) _ _ x (IsEvent x) (add_ok ws x) (
    either (bytes_eq name (codes "withdraw")) _ _ x (IsEvent x) (numbered_ok action.Withdraw 1 64 ws x (λ e n h. h)) (
    either (bytes_eq name (codes "dump")) _ _ x (IsEvent x) (dump_ok ws x) (λ h. absurd (cc h))))))))))))))))))

pub event_ok : (ws : List (List ℕ)) (x : Event) → link_event_of ws ≡ Ok x → IsEvent x
unfolding link_event_of word_in
event_ok [] x h = absurd (cc h)
event_ok (w ∷ ws) x h = named_ok w ws x h
