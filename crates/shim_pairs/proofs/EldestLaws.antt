-- The entry of which nothing passed for longest, found by a walk.
use Rattle.std.proofs.Common.{◌≡◌, ◌≤◌, ◌+◌, ℕ, zero, suc, Bool, true, false, List, [], ◌∷◌, length, drop, slice_get, Option, Some, None, refl, sym, ap, subst, ◌∙◌, arith}
use Rattle.std.specs.Prelude.{cond, nat_le, option_map, if◌then◌else◌}
use Rattle.std.specs.BTreeMap.{is_at}
use Rattle.book_base.specs.Orders.{by_pair}
use Rattle.book_base.proofs.OrderLaws.{pair_tied}
use Rattle.book_base.specs.declared.address.Pair.{Pair}
use Rattle.shim_pairs.specs.declared.entry.Entry.{Entry}
use Rattle.shim_pairs.specs.declared.eldest.Aged.{Aged}
use Rattle.shim_pairs.specs.Ages.{keep, next}
use Rattle.shim_pairs.specs.Holdings.{elder, eldest, found}

-- a pair, and when something of it passed last
abbrev pub age : Pair × Entry → Aged
age x = record { pair = x.0; last = x.1.last }

-- the lowest age, from one that is known on
abbrev pub lowest : Option Aged → List (Pair × Entry) → Option Aged
lowest b [] = b
lowest b (x ∷ xs) = lowest (Some (next b (age x))) xs

kept_three : (a b : Aged) (m : Option Aged) → keep (keep a (Some b)) m ≡ keep a (Some (keep b m))
kept_three a b None = refl
kept_three a b (Some c) = grind arith

age_elder : (x : Pair × Entry) (o : Option (Pair × Entry)) → age (elder x o) ≡ keep (age x) (option_map age o)
age_elder x None = refl
age_elder x (Some y) = at (nat_le x.1.last y.1.last)
  where
    at : (v : Bool) → age (if v then x else y) ≡ (if v then age x else age y)
    at true = refl
    at false = refl

lowest_from : (a : Aged) (xs : List (Pair × Entry)) → lowest (Some a) xs ≡ Some (keep a (option_map age (eldest xs)))
lowest_from a [] = refl
lowest_from a (x ∷ xs) =
    lowest_from (keep a (Some (age x))) xs
    ∙ ap (λ (k : Aged). Some k) (kept_three a (age x) (option_map age (eldest xs)))
    ∙ ap (λ (k : Aged). Some (keep a (Some k))) (sym (age_elder x (eldest xs)))

-- the pair of the lowest age is that of the eldest entry
pub lowest_is_eldest : (xs : List (Pair × Entry)) → option_map (λ (a : Aged). a.pair) (lowest None xs) ≡ option_map (λ (e : Pair × Entry). e.0) (eldest xs)
lowest_is_eldest [] = refl
lowest_is_eldest (x ∷ xs) =
    ap (option_map (λ (a : Aged). a.pair)) (lowest_from (age x) xs ∙ ap (λ (k : Aged). Some k) (sym (age_elder x (eldest xs))))

drop_at : (x : Pair × Entry) (es : List (Pair × Entry)) (i : ℕ) → Some x ≡ slice_get es i → drop i es ≡ x ∷ drop (suc i) es
drop_at x [] i e = absurd (cc)
drop_at x (y ∷ es) zero e = let one : y ≡ x = cc in rw one refl
drop_at x (y ∷ es) (suc i) e = drop_at x es i e

drop_end : (es : List (Pair × Entry)) (i : ℕ) → length es ≤ i → drop i es ≡ []
drop_end [] zero h = refl
drop_end [] (suc i) h = refl
drop_end (y ∷ es) zero h = absurd (omega (arith, h))
drop_end (y ∷ es) (suc i) h = drop_end es i (omega (arith, h))

-- one step of the walk
pub lowest_step : (b : Option Aged) (x : Pair × Entry) (es : List (Pair × Entry)) (i : ℕ) → Some x ≡ slice_get es i → lowest (Some (next b (age x))) (drop (i + 1) es) ≡ lowest b (drop i es)
lowest_step b x es i at = subst (λ (k : ℕ). lowest (Some (next b (age x))) (drop k es) ≡ lowest b (drop i es)) {x = suc i} (omega arith) (ap (lowest b) (sym (drop_at x es i at)))

-- at the end of the walk
pub lowest_end : (b : Option Aged) (es : List (Pair × Entry)) (i : ℕ) → length es ≤ i → lowest b (drop i es) ≡ b
lowest_end b es i h = ap (lowest b) (drop_end es i h)

pub none_within : (es : List (Pair × Entry)) (i : ℕ) → None ≡ slice_get es i → length es ≤ i
none_within [] i e = omega arith
none_within (y ∷ es) zero e = absurd (cc)
none_within (y ∷ es) (suc i) e = let h = none_within es i e in omega (arith, h)

-- the eldest entry is one of them
pub eldest_found : (es : List (Pair × Entry)) (x : Pair × Entry) → eldest es ≡ Some x → (e : Entry) × (found x.0 es ≡ Some e)
eldest_found [] x h = absurd (cc)
eldest_found (y ∷ es) x h = from (eldest es) refl h (eldest_found es x)
  where
    first : (b : Bool) (v : Option Entry) → ((b ≡ false) → (e : Entry) × (v ≡ Some e)) → (e : Entry) × (cond b (Some y.1) v ≡ Some e)
    first true v f = (y.1, refl)
    first false v f = f refl

    here : y ≡ x → (e : Entry) × (cond (is_at (by_pair x.0) y.0) (Some y.1) (found x.0 es) ≡ Some e)
    here same = first (is_at (by_pair x.0) y.0) (found x.0 es) (λ f. absurd (let tied : is_at (by_pair y.0) y.0 ≡ true = pair_tied y.0 in let g = subst (λ (z : Pair × Entry). is_at (by_pair z.0) y.0 ≡ false) (sym same) f in cc))

    by : (b : Bool) (z : Pair × Entry) → eldest es ≡ Some z → (if b then y else z) ≡ x → (eldest es ≡ Some x → (e : Entry) × (found x.0 es ≡ Some e)) → (e : Entry) × (cond (is_at (by_pair x.0) y.0) (Some y.1) (found x.0 es) ≡ Some e)
    by true z r same rec = here same
    by false z r same rec = first (is_at (by_pair x.0) y.0) (found x.0 es) (λ f. rec (r ∙ ap (λ (k : Pair × Entry). Some k) same))

    from : (o : Option (Pair × Entry)) → eldest es ≡ o → Some (elder y o) ≡ Some x → (eldest es ≡ Some x → (e : Entry) × (found x.0 es ≡ Some e)) → (e : Entry) × (cond (is_at (by_pair x.0) y.0) (Some y.1) (found x.0 es) ≡ Some e)
    from None r k rec = let same : y ≡ x = cc in here same
    from (Some z) r k rec = let same : (if nat_le y.1.last z.1.last then y else z) ≡ x = cc in by (nat_le y.1.last z.1.last) z r same rec

pub eldest_some : (es : List (Pair × Entry)) → 1 ≤ length es → (x : Pair × Entry) × (eldest es ≡ Some x)
eldest_some [] h = absurd (omega (arith, h))
eldest_some (y ∷ es) h = (elder y (eldest es), refl)
