-- The initial sequence numbers that are tried are exactly those of other connections.
use Rattle.std.proofs.Common.{◌≡◌, ℕ, Bool, true, false, List, [], ◌∷◌, ◌++◌, Option, Some, None, ◌⊎◌, inl, inr, refl, sym, ap, subst, ◌∙◌, arith}
use Rattle.std.specs.Prelude.{◌↔◌, ◌&&◌, ◌||◌, ◌==◌, Contains, if◌then◌else◌}
use Rattle.std.specs.List.{list_any}
use Rattle.std.proofs.lemmas.Bool.Decides.{nat_tests}
use Rattle.std.proofs.lemmas.List.Elements.{Contains-append_left, Contains-append_right, Contains-append_cases, Contains-push, Contains-push_cases}
use Rattle.book_segments.specs.Segments.{Segment}
use Rattle.book_cmd_check.specs.declared.given.GivenIsns.{GivenIsns}
use Rattle.book_why.specs.declared.change.IsnPair.{IsnPair}
use Rattle.book_why.proofs.ChangeLaws.{none, front, behind, front_or_behind}
use Rattle.book_why.specs.OtherIsns.{TellsIsns, all_told_at, are_own, isns_seen_from, other_isns, same_isn_pair, with_isn_pair, with_isn_pairs}

left_of : (a b : Bool) → (a && b) ≡ true → a ≡ true
left_of true b e = refl
left_of false b e = e

right_of : (a b : Bool) → (a && b) ≡ true → b ≡ true
right_of true b e = e
right_of false b e = absurd (cc)

neither_left : (a b : Bool) → (a || b) ≡ false → a ≡ false
neither_left true b e = e
neither_left false b e = refl

or_right : (a b : Bool) → (a || b) ≡ true → a ≡ false → b ≡ true
or_right true b e no_left = absurd (cc)
or_right false b e no_left = e

same_number : (a b : ℕ) → (a == b) ≡ true → a ≡ b
same_number a b e = grind (arith, nat_tests, e)

pair_of : (source destination : ℕ) → IsnPair
pair_of source destination = record { source_isn = source; destination_isn = destination }

same_pair : (p q : IsnPair) → same_isn_pair p q ≡ true → p ≡ q
unfolding pair_of
same_pair p q e =
    let one : p.source_isn ≡ q.source_isn = same_number p.source_isn q.source_isn (left_of (p.source_isn == q.source_isn) (p.destination_isn == q.destination_isn) e) in
    let two : p.destination_isn ≡ q.destination_isn = same_number p.destination_isn q.destination_isn (right_of (p.source_isn == q.source_isn) (p.destination_isn == q.destination_isn) e) in
    ap (λ (n : ℕ). pair_of n p.destination_isn) one ∙ ap (pair_of q.source_isn) two

-- what some of a list is the same as is in it
among : (p : IsnPair) (pairs : List IsnPair) → list_any (same_isn_pair p) pairs ≡ true → Contains pairs p
among p [] e = absurd (cc)
among p (q ∷ qs) e = at (λ f. among p qs f) (same_isn_pair p q) refl
  where
    at : (list_any (same_isn_pair p) qs ≡ true → Contains qs p) → (b : Bool) → same_isn_pair p q ≡ b → Contains (q ∷ qs) p
    at later true is = subst (λ x. Contains (q ∷ qs) x) (sym (same_pair p q is)) (front qs q)
    at later false is = behind qs q p (later (or_right (same_isn_pair p q) (list_any (same_isn_pair p) qs) e is))

-- the pair that is told is this one, and isn't the own one
record Is (own : Option IsnPair) (told : Option IsnPair) (x : IsnPair) : Type 0 where
  seen : told ≡ Some x
  another : are_own own x ≡ false

-- a list with one more, if the test doesn't hold
abbrev unless_test : Bool → List IsnPair → IsnPair → List IsnPair
unless_test b pairs p = if b then pairs else pairs ++ p ∷ []

one_more_to : (own : Option IsnPair) (pairs : List IsnPair) (p x : IsnPair) (b : Bool) → (are_own own p || list_any (same_isn_pair p) pairs) ≡ b → Contains (unless_test b pairs p) x → Contains pairs x ⊎ Is own (Some p) x
one_more_to own pairs p x true e h = inl h
one_more_to own pairs p x false e h = at (Contains-push_cases pairs p x h)
  where
    at : Contains pairs x ⊎ (p ≡ x) → Contains pairs x ⊎ Is own (Some p) x
    at (inl f) = inl f
    at (inr same) = inr (record {
      seen = ap (λ (q : IsnPair). Some q) same;
      another = subst (λ q. are_own own q ≡ false) same (neither_left (are_own own p) (list_any (same_isn_pair p) pairs) e);
    })

one_more_kept : (pairs : List IsnPair) (p x : IsnPair) (b : Bool) → Contains pairs x → Contains (unless_test b pairs p) x
one_more_kept pairs p x true h = h
one_more_kept pairs p x false h = Contains-append_left pairs (p ∷ []) x h

some_is : (p x : IsnPair) → ◌≡◌ {A = Option IsnPair} (Some p) (Some x) → p ≡ x
some_is p x e = cc

one_more_there : (own : Option IsnPair) (pairs : List IsnPair) (p x : IsnPair) (b : Bool) → (are_own own p || list_any (same_isn_pair p) pairs) ≡ b → p ≡ x → are_own own x ≡ false → Contains (unless_test b pairs p) x
one_more_there own pairs p x true e same another =
    let not_own : are_own own p ≡ false = subst (λ q. are_own own q ≡ false) (sym same) another in
    subst (λ q. Contains pairs q) same (among p pairs (or_right (are_own own p) (list_any (same_isn_pair p) pairs) e not_own))
one_more_there own pairs p x false e same another = subst (λ q. Contains (pairs ++ p ∷ []) q) same (Contains-push pairs p)

step_to : (own : Option IsnPair) (pairs : List IsnPair) (o : Option IsnPair) (x : IsnPair) → Contains (with_isn_pair own pairs o) x → Contains pairs x ⊎ Is own o x
step_to own pairs None x h = inl h
step_to own pairs (Some p) x h = one_more_to own pairs p x (are_own own p || list_any (same_isn_pair p) pairs) refl h

step_kept : (own : Option IsnPair) (pairs : List IsnPair) (o : Option IsnPair) (x : IsnPair) → Contains pairs x → Contains (with_isn_pair own pairs o) x
step_kept own pairs None x h = h
step_kept own pairs (Some p) x h = one_more_kept pairs p x (are_own own p || list_any (same_isn_pair p) pairs) h

step_there : (own : Option IsnPair) (pairs : List IsnPair) (o : Option IsnPair) (x : IsnPair) → o ≡ Some x → are_own own x ≡ false → Contains (with_isn_pair own pairs o) x
step_there own pairs None x e another = absurd (cc)
step_there own pairs (Some p) x e another = one_more_there own pairs p x (are_own own p || list_any (same_isn_pair p) pairs) refl (some_is p x e) another

-- one of these is this pair, seen from the segment's source, and isn't its own
record Tells (d : Segment) (own : Option IsnPair) (told : List GivenIsns) (x : IsnPair) : Type 0 where
  teller : GivenIsns
  among : Contains told teller
  seen : isns_seen_from d teller ≡ Some x
  another : are_own own x ≡ false

module _ (d : Segment) (own : Option IsnPair) (x : IsnPair) where
  later_tells : (g : GivenIsns) (gs : List GivenIsns) → Tells d own gs x → Tells d own (g ∷ gs) x
  later_tells g gs t = record { teller = t.teller; among = behind gs g t.teller t.among; seen = t.seen; another = t.another }

  told_from : (pairs : List IsnPair) (gs : List GivenIsns) → Contains (with_isn_pairs d own pairs gs) x → Contains pairs x ⊎ Tells d own gs x
  told_from pairs [] h = inl h
  told_from pairs (g ∷ gs) h = at (told_from (with_isn_pair own pairs (isns_seen_from d g)) gs h)
    where
      here : Contains pairs x ⊎ Is own (isns_seen_from d g) x → Contains pairs x ⊎ Tells d own (g ∷ gs) x
      here (inl f) = inl f
      here (inr is) = inr (record { teller = g; among = front gs g; seen = is.seen; another = is.another })

      at : Contains (with_isn_pair own pairs (isns_seen_from d g)) x ⊎ Tells d own gs x → Contains pairs x ⊎ Tells d own (g ∷ gs) x
      at (inl f) = here (step_to own pairs (isns_seen_from d g) x f)
      at (inr t) = inr (later_tells g gs t)

  kept_through : (pairs : List IsnPair) (gs : List GivenIsns) → Contains pairs x → Contains (with_isn_pairs d own pairs gs) x
  kept_through pairs [] h = h
  kept_through pairs (g ∷ gs) h = kept_through (with_isn_pair own pairs (isns_seen_from d g)) gs (step_kept own pairs (isns_seen_from d g) x h)

  told_to : (pairs : List IsnPair) (gs : List GivenIsns) (g : GivenIsns) → Contains gs g → isns_seen_from d g ≡ Some x → are_own own x ≡ false → Contains (with_isn_pairs d own pairs gs) x
  told_to pairs [] g h seen another = absurd (none g h)
  told_to pairs (k ∷ ks) g h seen another = at (λ f. told_to (with_isn_pair own pairs (isns_seen_from d k)) ks g f seen another) (front_or_behind ks k g h)
    where
      at : (Contains ks g → Contains (with_isn_pairs d own (with_isn_pair own pairs (isns_seen_from d k)) ks) x) → (k ≡ g) ⊎ Contains ks g → Contains (with_isn_pairs d own (with_isn_pair own pairs (isns_seen_from d k)) ks) x
      at later (inl same) = kept_through (with_isn_pair own pairs (isns_seen_from d k)) ks (step_there own pairs (isns_seen_from d k) x (ap (isns_seen_from d) same ∙ seen) another)
      at later (inr f) = later f

pub isns_tried : (d : Segment) (own : Option IsnPair) (told : List GivenIsns) (isns : IsnPair) → Contains (other_isns d own told) isns ↔ TellsIsns d own told isns
unfolding other_isns
isns_tried d own told isns = (to, λ t. told_to d own isns [] (all_told_at d told) t.teller t.among t.seen t.another)
  where
    at : Contains [] isns ⊎ Tells d own (all_told_at d told) isns → TellsIsns d own told isns
    at (inl f) = absurd (none isns f)
    at (inr t) = record { teller = t.teller; among = t.among; seen = t.seen; another = t.another }

    to : Contains (with_isn_pairs d own [] (all_told_at d told)) isns → TellsIsns d own told isns
    to h = at (told_from d own isns [] (all_told_at d told) h)
