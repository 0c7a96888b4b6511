-- What a checker knows once a connection is put among those that it knew.
use Rattle.std.proofs.Common.{◌≡◌, Bool, true, false, List, Option, Some, None, ⊎_elim, refl, sym, ap, ◌∙◌}
use Rattle.std.specs.Prelude.{cond, is_some, option_map}
use Rattle.std.specs.BTreeMap.{is_at}
use Rattle.std.specs.List.{find}
use Rattle.book_base.specs.declared.address.Socket.{Socket}
use Rattle.book_base.specs.declared.address.Pair.{Pair}
use Rattle.book_base.specs.Orders.{by_pair, sorted_pair}
use Rattle.book_base.proofs.OrderLaws.{pair_tied, pair_told, sorted_told, sorted_turned}
use Rattle.book_segments.specs.Sockets.{same_socket}
use Rattle.book_segments.proofs.SocketLaws.{same_socket_is, same_socket-refl}
use Rattle.book_keys.specs.Rows.{Table}
use Rattle.book_cmd_check.specs.Captures.{Connection, joins, seen_from, with_connection}
use Rattle.capture_check.specs.declared.flows.Flows.{Flows}
use Rattle.capture_check.specs.Flows.{flow_from, shown, IsFlow}
use Rattle.capture_check.specs.Checkers.{found, IsSound, known, told, StandsFor}
use Rattle.capture_check.specs.Judgements.{Puts}
use Rattle.capture_check.proofs.HeldLaws.{joined, joined_told, joined_turned, joined-refl, find_put, find_others, length_put}

-- what is found between two sockets after a put between two others
pub data AtPut (before after : List (Pair × Flows)) (s t a b : Socket) (h : Flows) : Type 0 where
  Same : s ≡ a → t ≡ b → found after (sorted_pair a b) ≡ Some h → AtPut before after s t a b h
  Turned : s ≡ b → t ≡ a → found after (sorted_pair a b) ≡ Some h → AtPut before after s t a b h
  Other : joined a b s t ≡ false → found after (sorted_pair a b) ≡ found before (sorted_pair a b) → AtPut before after s t a b h

pub same_turned : (a b : Socket) → same_socket a b ≡ false → same_socket b a ≡ false
same_turned a b e = at (same_socket b a) refl
  where
    at : (v : Bool) → same_socket b a ≡ v → v ≡ false
    at false h = refl
    at true h = let same = same_socket_is b a h in let told : same_socket a a ≡ false = rw same at e in let is = same_socket-refl a in absurd (cc)

pub put_found : (before after : List (Pair × Flows)) (k q : Pair) (h : Flows) → Puts before after k h → k ≡ q → found after q ≡ Some h
put_found before after k q h P e =
    let same : is_at (by_pair k) q ≡ true = ap (λ (x : Pair). is_at (by_pair k) x) (sym e) ∙ pair_tied k in
    P.finds q ∙ ap (λ (v : Bool). cond v (Some h) (found before q)) same

pub found_put : (before after : List (Pair × Flows)) (s t : Socket) (h : Flows) → Puts before after (sorted_pair s t) h → same_socket s t ≡ false
    → (a b : Socket) → same_socket a b ≡ false → AtPut before after s t a b h
found_put before after s t h P ne a b n = at (joined a b s t) refl
  where
    other : (v : Bool) → joined a b s t ≡ false → is_at (by_pair (sorted_pair s t)) (sorted_pair a b) ≡ v → v ≡ false
    other false j e = refl
    other true j e =
        let t1 = sorted_told s t a b (pair_told (sorted_pair s t) (sorted_pair a b) e) in
        let is : joined a b s t ≡ true = ⊎_elim
        (λ x. rw (x.0, x.1) (joined-refl a b))
        (λ x. rw (x.0, x.1) (joined_turned b a b a ∙ joined-refl b a)) t1 in absurd (cc)

    at : (v : Bool) → joined a b s t ≡ v → AtPut before after s t a b h
    at true j =
        ⊎_elim
        (λ x. Same x.0 x.1 (put_found before after (sorted_pair s t) (sorted_pair a b) h P (rw (x.0, x.1) refl)))
        (λ x. Turned x.0 x.1 (put_found before after (sorted_pair s t) (sorted_pair a b) h P (rw (x.0, x.1) (sorted_turned a b))))
        (joined_told a b s t j)
    at false j =
        let apart = other (is_at (by_pair (sorted_pair s t)) (sorted_pair a b)) j refl in
        Other j (P.finds (sorted_pair a b) ∙ ap (λ (v : Bool). cond v (Some h) (found before (sorted_pair a b))) apart)

-- ---- connections that are held

abbrev swapped : Connection → Connection
swapped c = record { one = c.two; two = c.one }

seen_same : (s t a b : Socket) (h : Flows) → s ≡ a → t ≡ b → seen_from a (shown s t h) ≡ shown a b h
seen_same s t a b h x y = rw (x, y, same_socket-refl a) refl

seen_turned : (s t a b : Socket) (h : Flows) → s ≡ b → t ≡ a → same_socket a b ≡ false → seen_from a (shown s t h) ≡ shown a b h
seen_turned s t a b h x y n = let no = same_turned a b n in rw (x, y, no) refl

pub count_known : (es : List (Pair × Flows)) (held : List Connection) (s t : Socket) → StandsFor es held → same_socket s t ≡ false
    → is_some (found es (sorted_pair s t)) ≡ is_some (find (joins s t) held)
count_known es held s t S ne = at (found es (sorted_pair s t)) (find (joins s t) held) (S.same s t ne)
  where
    at : (o : Option Flows) (p : Option Connection) → told s t o ≡ option_map (seen_from s) p → is_some o ≡ is_some p
    at None None e = refl
    at (Some h) (Some c) e = refl
    at None (Some c) e = absurd (cc)
    at (Some h) None e = absurd (cc)

-- what is put stands for the connection among those that are held
pub stands_put : (before after : List (Pair × Flows)) (held : List Connection) (s t : Socket) (h : Flows) → StandsFor before held → Puts before after (sorted_pair s t) h
    → same_socket s t ≡ false → StandsFor after (with_connection (shown s t h) held)
stands_put before after held s t h S P ne =
    record {
      same = λ a b n. at a b n (found_put before after s t h P ne a b n);
      count = P.count ∙ rw (count_known before held s t S ne, S.count) (sym (length_put (shown s t h) held));
    }
  where
    at : (a b : Socket) → same_socket a b ≡ false → AtPut before after s t a b h → told a b (found after (sorted_pair a b)) ≡ known a b (with_connection (shown s t h) held)
    at a b n (Same x y f) =
        let j : joins a b (shown s t h) ≡ true = rw (x, y) (joined-refl a b) in
        rw (f, find_put a b (shown s t h) held j) (ap Some (sym (seen_same s t a b h x y)))
    at a b n (Turned x y f) =
        let j : joins a b (shown s t h) ≡ true = rw (x, y) (joined_turned b a b a ∙ joined-refl b a) in
        rw (f, find_put a b (shown s t h) held j) (ap Some (sym (seen_turned s t a b h x y n)))
    at a b n (Other j f) = rw (f, find_others a b (shown s t h) held j) (S.same a b n)

-- where the connection looks the same, the same connections are held
pub stands_same : (before after : List (Pair × Flows)) (held : List Connection) (s t : Socket) (h next : Flows) → StandsFor before held → Puts before after (sorted_pair s t) next
    → same_socket s t ≡ false → found before (sorted_pair s t) ≡ Some h → shown s t next ≡ shown s t h → StandsFor after held
stands_same before after held s t h next S P ne f is =
    record {
      same = λ a b n. at a b n (found_put before after s t next P ne a b n);
      count = P.count ∙ (rw f S.count);
    }
  where
    at : (a b : Socket) → same_socket a b ≡ false → AtPut before after s t a b next → told a b (found after (sorted_pair a b)) ≡ known a b held
    at a b n (Same x y g) =
        let here : told a b (found before (sorted_pair a b)) ≡ Some (shown a b h) = rw (← x, ← y, f) refl in
        rw g (ap Some (rw (← x, ← y) is)) ∙ (sym here ∙ S.same a b n)
    at a b n (Turned x y g) =
        let k : found before (sorted_pair a b) ≡ Some h = ap (found before) (sorted_turned b a) ∙ rw (← x, ← y) f in
        rw g (ap Some (rw (← x, ← y) (ap swapped is))) ∙ (ap (told a b) (sym k) ∙ S.same a b n)
    at a b n (Other j g) = rw g (S.same a b n)

-- ---- soundness

pub sound_put : (tables : List Table) (before after : List (Pair × Flows)) (s t : Socket) (h : Flows) → IsSound tables before → Puts before after (sorted_pair s t) h → same_socket s t ≡ false
    → IsFlow tables s t (flow_from s t h) (flow_from t s h) → IsFlow tables t s (flow_from t s h) (flow_from s t h) → IsSound tables after
sound_put tables before after s t h S P ne one two = λ a b k n e. at a b k n e (found_put before after s t h P ne a b n)
  where
    at : (a b : Socket) (k : Flows) → same_socket a b ≡ false → found after (sorted_pair a b) ≡ Some k → AtPut before after s t a b h → IsFlow tables a b (flow_from a b k) (flow_from b a k)
    at a b k n e (Same x y f) = let is : h ≡ k = cc in rw (← is, ← x, ← y) one
    at a b k n e (Turned x y f) = let is : h ≡ k = cc in rw (← is, ← x, ← y) two
    at a b k n e (Other j f) = S a b k n (sym f ∙ e)
