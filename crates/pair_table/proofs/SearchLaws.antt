-- What a binary search finds among pairs in order.
use Rattle.std.proofs.Common.{◌≡◌, ℕ, zero, suc, ◌<◌, ◌≤◌, List, [], ◌∷◌, length, get_or, Result, Ok, Err, IfOk, IfErr, refl, sym, ap, subst, ◌∙◌, arith, inl, inr, ◌⊎◌}
use Rattle.std.specs.BTreeMap.{is_at}
use Rattle.std.specs.List.Sorted.{IsBinarySearchResult, IsNonDecreasingBy, IsSearchInRange, IsStrictlySortedBy}
use Rattle.std.specs.Ordering.{is_eq, is_gt, ordering_index, ordering_reverse}
use Rattle.std.specs.declared.cmp.Ordering.{Ordering}
use Rattle.std.specs.declared.cmp.Ordering.TheVariants.{Less, Equal, Greater}
use Rattle.std.proofs.lemmas.Map.Keys.{Less-from_sorted, sorted_tail}
use Rattle.std.proofs.lemmas.List.Sorted.{IsNonDecreasingBy-from_default}
use Rattle.book_base.specs.declared.address.Pair.{Pair}
use Rattle.book_base.specs.contracts.address.PairOrd.TheImpl.Laws as pair_laws
use Rattle.book_base.specs.Orders.{by_pair}
use Rattle.book_base.proofs.OrderLaws.{pair_told}
use Rattle.pair_table.specs.Places.{place_of, gap_of, IsAbsent}

-- an order is turned
pub turned : (p q : Pair) (o : Ordering) → by_pair p q ≡ o → by_pair q p ≡ ordering_reverse o
turned p q o e = pair_laws.total-law.antisymm q p ∙ ap ordering_reverse e

-- a pair that stands at a place is found there
pub placed : (p : Pair) (qs : List Pair) (i : ℕ) → IsStrictlySortedBy by_pair qs → i < length qs → by_pair (get_or qs i p) p ≡ Equal → i ≡ place_of (is_at (by_pair p)) qs
placed p [] i sorted lt e = absurd (omega (arith, lt))
placed p (q ∷ qs) zero sorted lt e = rw (ap is_eq (turned q p Equal e)) refl
placed p (q ∷ qs) (suc i) sorted lt e =
    let same : p ≡ get_or qs i p = pair_told p (get_or qs i p) (ap is_eq (turned (get_or qs i p) p Equal e)) in
    let less : by_pair q p ≡ Less = subst (λ (x : Pair). by_pair q x ≡ Less) (sym same) (Less-from_sorted by_pair (q ∷ qs) 0 (suc i) p sorted (omega arith) lt) in
    rw (ap is_eq (turned q p Less less)) (let next = placed p qs i (sorted_tail by_pair q qs sorted) (omega (arith, lt)) e in omega (arith, next))

-- all in front of a place are below the pair, and all from it on above
pub record Parted (p : Pair) (qs : List Pair) (i : ℕ) : Type 0 where
  pub below : (k : ℕ) → k < i → by_pair (get_or qs k p) p ≡ Less
  pub above : (k : ℕ) → i ≤ k → k < length qs → by_pair (get_or qs k p) p ≡ Greater

rest : (p q : Pair) (qs : List Pair) (i : ℕ) → Parted p (q ∷ qs) (suc i) → Parted p qs i
rest p q qs i h = record { below = λ k lt. h.below (suc k) (omega (arith, lt)); above = λ k le lt. h.above (suc k) (omega (arith, le)) (omega (arith, lt)) }

all_above : (p q : Pair) (qs : List Pair) → Parted p (q ∷ qs) zero → Parted p qs zero
all_above p q qs h = record { below = λ k lt. absurd (omega (arith, lt)); above = λ k le lt. h.above (suc k) (omega arith) (omega (arith, lt)) }

pub gap_is : (p : Pair) (qs : List Pair) (i : ℕ) → i ≤ length qs → Parted p qs i → i ≡ gap_of p qs
gap_is p [] i le h = omega (arith, le)
gap_is p (q ∷ qs) zero le h = rw (ap is_gt (turned q p Greater (h.above 0 (omega arith) (omega arith)))) refl
gap_is p (q ∷ qs) (suc i) le h =
    rw (ap is_gt (turned q p Less (h.below 0 (omega arith)))) (let next = gap_is p qs i (omega (arith, le)) (rest p q qs i h) in omega (arith, next))

pub none_is : (p : Pair) (qs : List Pair) (i : ℕ) → i ≤ length qs → Parted p qs i → IsAbsent p qs
none_is p [] i le h = tt
none_is p (q ∷ qs) zero le h = (ap is_eq (turned q p Greater (h.above 0 (omega arith) (omega arith))), none_is p qs zero (omega arith) (all_above p q qs h))
none_is p (q ∷ qs) (suc i) le h = (ap is_eq (turned q p Less (h.below 0 (omega arith))), none_is p qs i (omega (arith, le)) (rest p q qs i h))

-- the comparisons with a pair rise along pairs in order
rise : (p : Pair) (qs : List Pair) → IsStrictlySortedBy by_pair qs → IsNonDecreasingBy (λ (y : Pair). ordering_index (by_pair y p)) qs
rise p qs sorted = IsNonDecreasingBy-from_default (λ (y : Pair). ordering_index (by_pair y p)) qs p (λ i j le lt. at i j (by_pair (get_or qs j p) p) refl le lt)
  where
    below : (i j : ℕ) → i ≤ j → j < length qs → (i ≡ j) ⊎ (by_pair (get_or qs i p) (get_or qs j p) ≡ Less)
    below i j le lt = from (by_pair (get_or qs i p) (get_or qs j p)) refl
      where
        from : (o : Ordering) → by_pair (get_or qs i p) (get_or qs j p) ≡ o → (i ≡ j) ⊎ (by_pair (get_or qs i p) (get_or qs j p) ≡ Less)
        from Less e = inr e
        from Equal e = grind (arith, Less-from_sorted by_pair qs i j p sorted)
        from Greater e = grind (arith, Less-from_sorted by_pair qs i j p sorted)

    at : (i j : ℕ) (o : Ordering) → by_pair (get_or qs j p) p ≡ o → i ≤ j → j < length qs → ordering_index (by_pair (get_or qs i p) p) ≤ ordering_index (by_pair (get_or qs j p) p)
    at i j Less e le lt = elim (below i j le lt) [
      | inl same ↦ rw same (omega arith)
      | inr less ↦ rw (pair_laws.total-law.trans (get_or qs i p) (get_or qs j p) p less e) (omega arith)
    ]
    at i j Equal e le lt = elim (below i j le lt) [
      | inl same ↦ rw same (omega arith)
      | inr less ↦
          let same : p ≡ get_or qs j p = pair_told p (get_or qs j p) (ap is_eq (turned (get_or qs j p) p Equal e)) in
          let low : by_pair (get_or qs i p) p ≡ Less = subst (λ (x : Pair). by_pair (get_or qs i p) x ≡ Less) (sym same) less in
          rw low (omega arith)
    ]
    at i j Greater e le lt = rw e (most (by_pair (get_or qs i p) p))
      where
        most : (o : Ordering) → ordering_index o ≤ 2
        most Less = omega arith
        most Equal = omega arith
        most Greater = omega arith

-- what a binary search tells
pub record Searched (p : Pair) (qs : List Pair) (r : Result ℕ ℕ) : Type 0 where
  pub place : IfOk r (λ i. i ≡ place_of (is_at (by_pair p)) qs)
  pub within : IfOk r (λ i. i < length qs)
  pub gap : IfErr r (λ i. i ≡ gap_of p qs)
  pub absent : IfErr r (λ i. IsAbsent p qs)

pub searched : (p : Pair) (qs : List Pair) (r : Result ℕ ℕ) → IsStrictlySortedBy by_pair qs → IsSearchInRange r (length qs)
    → IsBinarySearchResult (λ (y : Pair). by_pair y p) qs r → Searched p qs r
searched p qs (Ok i) sorted range at = record { place = placed p qs i sorted range (at p); within = range; gap = tt; absent = tt }
searched p qs (Err i) sorted range parted =
    let h = parted (rise p qs sorted) in
    let both : Parted p qs i = record { below = λ k lt. h.0 k p (omega arith) lt; above = λ k le lt. h.1 k p le lt } in
    record { place = tt; within = tt; gap = gap_is p qs i range both; absent = none_is p qs i range both }
