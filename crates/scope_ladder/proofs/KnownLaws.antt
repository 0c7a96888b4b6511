-- Two sockets are found among the pairs of the sessions that are known.
use Rattle.std.proofs.Common.{◌≡◌, Bool, true, false, ⊎_elim, List, [], ◌∷◌, ◌++◌, refl, sym, ap, ◌∙◌}
use Rattle.std.specs.Prelude.{◌&&◌, ◌||◌, cond}
use Rattle.std.specs.BTreeMap.{is_at}
use Rattle.std.specs.List.{list_any}
use Rattle.std.proofs.lemmas.Bool.{and_parts}
use Rattle.book_base.specs.declared.address.Pair.{Pair}
use Rattle.book_base.specs.declared.address.Socket.{Socket}
use Rattle.book_base.specs.Orders.{by_pair, sorted_pair}
use Rattle.book_base.proofs.OrderLaws.{pair_tied, pair_told, sorted_told, sorted_turned}
use Rattle.book_segments.specs.Sockets.{same_socket}
use Rattle.book_segments.proofs.SocketLaws.{same_socket_is, same_socket-refl}
use Rattle.book_draw.specs.declared.session_rung.SessionEnds.{SessionEnds}
use Rattle.book_draw.specs.SessionRungs.{same_ends}
use Rattle.scope_ladder.specs.Known.{ArePairsOf}

abbrev pub ends_with : Socket → Socket → SessionEnds
ends_with a b = record { left = a; right = b }

-- ---- the same two sockets have the same order

or_right : (p : Bool) → p || true ≡ true
or_right true = refl
or_right false = refl

itself : (a b : Socket) → same_socket a a && same_socket b b ≡ true
itself a b = rw (same_socket-refl a, same_socket-refl b) refl

same_by : (a b c d : Socket) (p q : Bool) → (same_socket a c && same_socket b d) ≡ p → (same_socket a d && same_socket b c) ≡ q → p || q ≡ true → sorted_pair a b ≡ sorted_pair c d
same_by a b c d true q straight cross e =
    let both = and_parts (same_socket a c) (same_socket b d) straight in
    rw (same_socket_is a c both.0, same_socket_is b d both.1) refl
same_by a b c d false true straight cross e =
    let both = and_parts (same_socket a d) (same_socket b c) cross in
    rw (same_socket_is a d both.0, same_socket_is b c both.1) (sorted_turned c d)
same_by a b c d false false straight cross e = absurd (cc)

same_order : (a b c d : Socket) → same_ends (ends_with a b) (ends_with c d) ≡ true → sorted_pair a b ≡ sorted_pair c d
same_order a b c d e = same_by a b c d (same_socket a c && same_socket b d) (same_socket a d && same_socket b c) refl refl e

order_same : (a b c d : Socket) → sorted_pair a b ≡ sorted_pair c d → same_ends (ends_with a b) (ends_with c d) ≡ true
order_same a b c d e =
    ⊎_elim
    (λ h. rw (h.0, h.1) (ap (λ v. v || (same_socket c d && same_socket d c)) (itself c d)))
    (λ h. rw (h.0, h.1) (ap (λ v. (same_socket d c && same_socket c d) || v) (itself d c) ∙ or_right (same_socket d c && same_socket c d)))
    (sorted_told a b c d e)

found_by : (a b c d : Socket) (v w : Bool) → is_at (by_pair (sorted_pair c d)) (sorted_pair a b) ≡ v → same_ends (ends_with a b) (ends_with c d) ≡ w → v ≡ w
found_by a b c d true true f g = refl
found_by a b c d false false f g = refl
found_by a b c d true false f g =
    let same = order_same a b c d (sym (pair_told (sorted_pair c d) (sorted_pair a b) f)) in
    absurd (cc)
found_by a b c d false true f g =
    let tied : is_at (by_pair (sorted_pair c d)) (sorted_pair a b) ≡ true = rw (same_order a b c d g) (pair_tied (sorted_pair c d)) in
    absurd (cc)

-- a pair is found at another one exactly where it has the same two sockets
found_same : (a b c d : Socket) → is_at (by_pair (sorted_pair c d)) (sorted_pair a b) ≡ same_ends (ends_with a b) (ends_with c d)
found_same a b c d = found_by a b c d _ _ refl refl

-- ---- one session more

any_last : (test : SessionEnds → Bool) (known : List SessionEnds) (e : SessionEnds) → list_any test (known ++ e ∷ []) ≡ cond (test e) true (list_any test known)
any_last test [] e = at (test e)
  where
    at : (v : Bool) → v || false ≡ cond v true false
    at true = refl
    at false = refl
any_last test (k ∷ ks) e = ap (λ v. test k || v) (any_last test ks e) ∙ at (test k) (test e) (list_any test ks)
  where
    at : (u v w : Bool) → u || cond v true w ≡ cond v true (u || w)
    at true true w = refl
    at true false w = refl
    at false v w = refl

pub pairs_more : (pairs after : List Pair) (known : List SessionEnds) (e : SessionEnds) → ArePairsOf pairs known
    → ((q : Pair) → list_any (is_at (by_pair q)) after ≡ cond (is_at (by_pair (sorted_pair e.left e.right)) q) true (list_any (is_at (by_pair q)) pairs))
    → ArePairsOf after (known ++ e ∷ [])
pairs_more pairs after known e are puts a b =
    puts (sorted_pair a b)
    ∙ (ap (λ v. cond v true (list_any (is_at (by_pair (sorted_pair a b))) pairs)) (found_same a b e.left e.right)
    ∙ (ap (λ v. cond (same_ends (ends_with a b) e) true v) (are a b)
    ∙ sym (any_last (same_ends (ends_with a b)) known e)))
