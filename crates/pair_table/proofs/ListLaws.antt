-- Two lists, of pairs and of their values, as one list of entries.
use Rattle.std.proofs.Common.{◌≡◌, ℕ, zero, suc, ◌<◌, ◌≤◌, Bool, true, false, List, [], ◌∷◌, length, set, get_or, Option, Some, None, refl, sym, ap, subst, ◌∙◌, arith}
use Rattle.std.specs.Prelude.{if◌then◌else◌, cond, slice_get, option_map, is_some, nat_lt, IfSome}
use Rattle.std.specs.Borrow.{MutBor}
use Rattle.std.specs.Option.{OnSome, option_copied_mut}
use Rattle.std.proofs.lemmas.Option.{slice_get_past, slice_get_read}
use Rattle.std.proofs.lemmas.List.Edits.{length-insert, length-remove}
use Rattle.std.proofs.lemmas.Bool.Decides.{nat_tests}
use Rattle.std.specs.BTreeMap.{is_at, insert_entry}
use Rattle.std.specs.List.{AllByRecursion, insert, remove, zip}
use Rattle.std.specs.List.Sorted.{IsStrictlySortedBy}
use Rattle.std.specs.Map.{keys_of, lookup, remove_entry, set_value}
use Rattle.std.specs.Ordering.{is_eq, is_gt, match_ordering}
use Rattle.std.specs.declared.cmp.Ordering.{Ordering}
use Rattle.std.specs.declared.cmp.Ordering.TheVariants.{Less, Equal, Greater}
use Rattle.book_base.specs.declared.address.Pair.{Pair}
use Rattle.book_base.specs.contracts.address.PairOrd.TheImpl.Laws as pair_laws
use Rattle.book_base.specs.Orders.{by_pair}
use Rattle.pair_table.specs.Listings.{IsListing, Listing}
use Rattle.pair_table.specs.Places.{place_of, gap_of, IsAbsent, Lies}
use Rattle.pair_table.proofs.SearchLaws.{turned}

module _ {V : Type 0} where
  pub keys_zip : (ps : List Pair) (vs : List V) → length vs ≡ length ps → keys_of (zip ps vs) ≡ ps
  keys_zip [] vs e = refl
  keys_zip (p ∷ ps) [] e = absurd (omega (arith, e))
  keys_zip (p ∷ ps) (v ∷ vs) e = ap (λ (l : List Pair). p ∷ l) (keys_zip ps vs (omega (arith, e)))

  pub length_zip : (ps : List Pair) (vs : List V) → length vs ≡ length ps → length (zip ps vs) ≡ length ps
  length_zip [] vs e = refl
  length_zip (p ∷ ps) [] e = absurd (omega (arith, e))
  length_zip (p ∷ ps) (v ∷ vs) e = ap suc (length_zip ps vs (omega (arith, e)))

  pub found_zip : (test : Pair → Bool) (ps : List Pair) (vs : List V) → length vs ≡ length ps → slice_get vs (place_of test ps) ≡ lookup test (zip ps vs)
  found_zip test [] [] e = refl
  found_zip test [] (v ∷ vs) e = absurd (omega (arith, e))
  found_zip test (p ∷ ps) [] e = absurd (omega (arith, e))
  found_zip test (p ∷ ps) (v ∷ vs) e = by (test p) (found_zip test ps vs (omega (arith, e)))
    where
      by : (b : Bool) → slice_get vs (place_of test ps) ≡ lookup test (zip ps vs)
          → slice_get (v ∷ vs) (if b then 0 else suc (place_of test ps)) ≡ cond b (Some v) (lookup test (zip ps vs))
      by true h = refl
      by false h = h

  pub set_zip : (test : Pair → Bool) (ps : List Pair) (vs : List V) (w : V) → length vs ≡ length ps → zip ps (set vs (place_of test ps) w) ≡ set_value test (zip ps vs) w
  set_zip test [] vs w e = refl
  set_zip test (p ∷ ps) [] w e = absurd (omega (arith, e))
  set_zip test (p ∷ ps) (v ∷ vs) w e = by (test p) (set_zip test ps vs w (omega (arith, e)))
    where
      by : (b : Bool) → zip ps (set vs (place_of test ps) w) ≡ set_value test (zip ps vs) w
          → zip (p ∷ ps) (set (v ∷ vs) (if b then 0 else suc (place_of test ps)) w) ≡ cond b ((p, w) ∷ zip ps vs) ((p, v) ∷ set_value test (zip ps vs) w)
      by true h = refl
      by false h = ap (λ (l : List (Pair × V)). (p, v) ∷ l) h

  pub remove_zip : (test : Pair → Bool) (ps : List Pair) (vs : List V) → length vs ≡ length ps → place_of test ps < length ps
      → zip (remove ps (place_of test ps)) (remove vs (place_of test ps)) ≡ remove_entry test (zip ps vs)
  remove_zip test [] vs e lt = absurd (omega (arith, lt))
  remove_zip test (p ∷ ps) [] e lt = absurd (omega (arith, e))
  remove_zip test (p ∷ ps) (v ∷ vs) e lt = by (test p) lt (remove_zip test ps vs (omega (arith, e)))
    where
      by : (b : Bool) → (if b then 0 else suc (place_of test ps)) < suc (length ps)
          → (place_of test ps < length ps → zip (remove ps (place_of test ps)) (remove vs (place_of test ps)) ≡ remove_entry test (zip ps vs))
          → zip (remove (p ∷ ps) (if b then 0 else suc (place_of test ps))) (remove (v ∷ vs) (if b then 0 else suc (place_of test ps)))
          ≡ cond b (zip ps vs) ((p, v) ∷ remove_entry test (zip ps vs))
      by true lt h = refl
      by false lt h = ap (λ (l : List (Pair × V)). (p, v) ∷ l) (h (omega (arith, lt)))

  -- a pair that isn't there is found at no place, and goes from nowhere
  pub absent_lookup : (p : Pair) (ps : List Pair) (vs : List V) → length vs ≡ length ps → IsAbsent p ps → None ≡ lookup (is_at (by_pair p)) (zip ps vs)
  absent_lookup p [] vs e none = refl
  absent_lookup p (q ∷ ps) [] e none = absurd (omega (arith, e))
  absent_lookup p (q ∷ ps) (v ∷ vs) e none = rw none.0 (absent_lookup p ps vs (omega (arith, e)) none.1)

  pub absent_remove : (p : Pair) (ps : List Pair) (vs : List V) → length vs ≡ length ps → IsAbsent p ps → zip ps vs ≡ remove_entry (is_at (by_pair p)) (zip ps vs)
  absent_remove p [] vs e none = refl
  absent_remove p (q ∷ ps) [] e none = absurd (omega (arith, e))
  absent_remove p (q ∷ ps) (v ∷ vs) e none = rw none.0 (ap (λ (l : List (Pair × V)). (q, v) ∷ l) (absent_remove p ps vs (omega (arith, e)) none.1))

  pub lookup_absent : (p : Pair) (ps : List Pair) (vs : List V) → length vs ≡ length ps → lookup (is_at (by_pair p)) (zip ps vs) ≡ None → IsAbsent p ps
  lookup_absent p [] vs e none = tt
  lookup_absent p (q ∷ ps) [] e none = absurd (omega (arith, e))
  lookup_absent p (q ∷ ps) (v ∷ vs) e none = by (is_at (by_pair p) q) refl none (lookup_absent p ps vs (omega (arith, e)))
    where
      by : (b : Bool) → is_at (by_pair p) q ≡ b → cond b (Some v) (lookup (is_at (by_pair p)) (zip ps vs)) ≡ None
          → (lookup (is_at (by_pair p)) (zip ps vs) ≡ None → IsAbsent p ps) → IsAbsent p (q ∷ ps)
      by true f h next = absurd (cc)
      by false f h next = (f, next h)

  pub insert_zip : (p : Pair) (v : V) (ps : List Pair) (vs : List V) → length vs ≡ length ps → IsAbsent p ps
      → zip (insert ps (gap_of p ps) p) (insert vs (gap_of p ps) v) ≡ insert_entry by_pair (zip ps vs) p v
  insert_zip p v [] [] e none = refl
  insert_zip p v [] (w ∷ vs) e none = absurd (omega (arith, e))
  insert_zip p v (q ∷ ps) [] e none = absurd (omega (arith, e))
  insert_zip p v (q ∷ ps) (w ∷ vs) e none = by (by_pair p q) none.0 (insert_zip p v ps vs (omega (arith, e)) none.1)
    where
      by : (o : Ordering) → is_eq o ≡ false → zip (insert ps (gap_of p ps) p) (insert vs (gap_of p ps) v) ≡ insert_entry by_pair (zip ps vs) p v
          → zip (insert (q ∷ ps) (if is_gt o then suc (gap_of p ps) else 0) p) (insert (w ∷ vs) (if is_gt o then suc (gap_of p ps) else 0) v)
          ≡ match_ordering o ((p, v) ∷ (q, w) ∷ zip ps vs) ((q, v) ∷ zip ps vs) ((q, w) ∷ insert_entry by_pair (zip ps vs) p v)
      by Less f h = refl
      by Equal f h = absurd (cc)
      by Greater f h = ap (λ (l : List (Pair × V)). (q, w) ∷ l) h

  pub get_zip : (ps : List Pair) (vs : List V) (i : ℕ) → length vs ≡ length ps → (p : Pair) (v : V) → slice_get ps i ≡ Some p → slice_get vs i ≡ Some v → Some (p, v) ≡ slice_get (zip ps vs) i
  get_zip [] vs i e p v f g = absurd (cc)
  get_zip (q ∷ ps) [] i e p v f g = absurd (omega (arith, e))
  get_zip (q ∷ ps) (w ∷ vs) zero e p v f g = cc
  get_zip (q ∷ ps) (w ∷ vs) (suc i) e p v f g = get_zip ps vs i (omega (arith, e)) p v f g

  pub none_zip : (ps : List Pair) (vs : List V) (i : ℕ) → length vs ≡ length ps → length ps ≤ i → None ≡ slice_get (zip ps vs) i
  none_zip [] vs i e le = refl
  none_zip (q ∷ ps) [] i e le = absurd (omega (arith, e))
  none_zip (q ∷ ps) (w ∷ vs) zero e le = absurd (omega (arith, le))
  none_zip (q ∷ ps) (w ∷ vs) (suc i) e le = none_zip ps vs i (omega (arith, e)) (omega (arith, le))

pub place_absent : (p : Pair) (ps : List Pair) → IsAbsent p ps → length ps ≡ place_of (is_at (by_pair p)) ps
place_absent p [] none = refl
place_absent p (q ∷ ps) none = rw none.0 (ap suc (place_absent p ps none.1))

pub gap_within : (p : Pair) (ps : List Pair) → gap_of p ps ≤ length ps
gap_within p [] = omega arith
gap_within p (q ∷ ps) = by (is_gt (by_pair p q)) (gap_within p ps)
  where
    by : (b : Bool) → gap_of p ps ≤ length ps → (if b then suc (gap_of p ps) else 0) ≤ suc (length ps)
    by true h = omega (arith, h)
    by false h = omega arith

all_insert : (P : Pair → Type 0) (qs : List Pair) (i : ℕ) (p : Pair) → AllByRecursion P qs → P p → AllByRecursion P (insert qs i p)
all_insert P [] zero p all h = (h, tt)
all_insert P [] (suc i) p all h = (h, tt)
all_insert P (q ∷ qs) zero p all h = (h, all)
all_insert P (q ∷ qs) (suc i) p all h = (all.0, all_insert P qs i p all.1 h)

all_remove : (P : Pair → Type 0) (qs : List Pair) (i : ℕ) → AllByRecursion P qs → AllByRecursion P (remove qs i)
all_remove P [] zero all = tt
all_remove P [] (suc i) all = tt
all_remove P (q ∷ qs) zero all = all.1
all_remove P (q ∷ qs) (suc i) all = (all.0, all_remove P qs i all.1)

all_past : (p q : Pair) (qs : List Pair) → by_pair p q ≡ Less → AllByRecursion (λ (y : Pair). by_pair q y ≡ Less) qs → AllByRecursion (λ (y : Pair). by_pair p y ≡ Less) qs
all_past p q [] e all = tt
all_past p q (x ∷ qs) e all = (pair_laws.total-law.trans p q x e all.0, all_past p q qs e all.1)

pub sorted_insert : (p : Pair) (qs : List Pair) → IsAbsent p qs → IsStrictlySortedBy by_pair qs → IsStrictlySortedBy by_pair (insert qs (gap_of p qs) p)
unfolding IsStrictlySortedBy
sorted_insert p [] none s = (tt, tt)
sorted_insert p (q ∷ qs) none s = by (by_pair p q) refl none.0 (sorted_insert p qs none.1 s.1)
  where
    by : (o : Ordering) → by_pair p q ≡ o → is_eq o ≡ false → IsStrictlySortedBy by_pair (insert qs (gap_of p qs) p)
        → IsStrictlySortedBy by_pair (insert (q ∷ qs) (if is_gt o then suc (gap_of p qs) else 0) p)
    by Less e f next = ((e, all_past p q qs e s.0), s)
    by Equal e f next = absurd (cc)
    by Greater e f next = (all_insert (λ (y : Pair). by_pair q y ≡ Less) qs (gap_of p qs) p s.0 (turned p q Greater e), next)

pub sorted_remove : (qs : List Pair) (i : ℕ) → IsStrictlySortedBy by_pair qs → IsStrictlySortedBy by_pair (remove qs i)
unfolding IsStrictlySortedBy
sorted_remove [] zero s = tt
sorted_remove [] (suc i) s = tt
sorted_remove (q ∷ qs) zero s = s.1
sorted_remove (q ∷ qs) (suc i) s = (all_remove (λ (y : Pair). by_pair q y ≡ Less) qs i s.0, sorted_remove qs i s.1)

-- what is seen is a listing
pub listing : {V : Type 0} (most : ℕ) (ps : List Pair) (vs : List V) → length vs ≡ length ps → IsStrictlySortedBy by_pair ps → length ps ≤ most
    → IsListing (record { most = most; entries = zip ps vs })
listing most ps vs e sorted room = record {
  sorted = subst (IsStrictlySortedBy by_pair) (sym (keys_zip ps vs e)) sorted;
  room = let n = length_zip ps vs e in omega (arith, n, room);
}

-- what is read at a place
pub got : {R X : Type 0} (now : R → X) (xs : List X) (i : ℕ) (r : Option R) → is_some r ≡ nat_lt i (length xs) → IfSome r (λ x. now x ≡ get_or xs i (now x)) → option_map now r ≡ slice_get xs i
got now xs i None h k = sym (slice_get_past xs i (grind (arith, nat_tests)))
got now xs i (Some x) h k = sym (slice_get_read xs (length xs) i (now x) refl (grind (arith, nat_tests)) k)

pub got_copied : {X : Type 0} (xs : List X) (i : ℕ) (r : Option (MutBor X)) → option_map (λ m. m.now) r ≡ slice_get xs i → option_copied_mut r ≡ slice_get xs i
got_copied xs i None h = h
got_copied xs i (Some m) h = h

pub on_some : {X P : Type 0} (r : Option X) → P → OnSome r P
on_some None h = tt
on_some (Some x) h = h

pub keys_seen : {V : Type 0} {most : ℕ} (ps : List Pair) (vs : List V) (l : Listing V) → length vs ≡ length ps → (let k : Listing V = record { most = most; entries = zip ps vs } in k ≡ l) → ps ≡ keys_of l.entries
keys_seen {V} ps vs l e is = sym (keys_zip ps vs e) ∙ ap (λ (k : Listing V). keys_of k.entries) is

-- a pair that isn't there has no place
pub never : (p : Pair) (qs ps : List Pair) (i : ℕ) → qs ≡ ps → IsAbsent p ps → i ≡ place_of (is_at (by_pair p)) qs → i < length qs → ⊥
never p qs ps i same none at lt = let n = place_absent p qs (subst (IsAbsent p) (sym same) none) in omega (arith, n, at, lt)

-- ---- how the lists lie

pub empty_lies : {V : Type 0} (most first second : ℕ) (ps : List Pair) (vs : List V) → ps ≡ [] → vs ≡ [] → most ≤ first → most ≤ second → Lies most first second ps vs
unfolding IsStrictlySortedBy
empty_lies most first second ps vs p v f s = rw (p, v) (record { sorted = tt; same = refl; room = omega arith; first_room = f; second_room = s })

-- a row has come into both, for which there was room
pub lies_inserted : {V : Type 0} (most first second first' second' at : ℕ) (p : Pair) (v : V) (ps ps' : List Pair) (vs vs' : List V) → Lies most first second ps vs → length ps < most → IsAbsent p ps → at ≡ gap_of p ps
    → ps' ≡ insert ps at p → vs' ≡ insert vs at v → first ≤ first' → second ≤ second' → Lies most first' second' ps' vs'
lies_inserted most first second first' second' at p v ps ps' vs vs' lies room none is fp fv gf gs =
    let within = gap_within p ps in
    rw (fp, fv, is) (record {
      sorted = sorted_insert p ps none lies.sorted;
      same = let a = length-insert ps (gap_of p ps) p within in let b = length-insert vs (gap_of p ps) v (let e = lies.same in omega (arith, e, within)) in let e = lies.same in omega (arith, a, b, e);
      room = let a = length-insert ps (gap_of p ps) p within in omega (arith, a, room);
      first_room = let r = lies.first_room in omega (arith, r, gf);
      second_room = let r = lies.second_room in omega (arith, r, gs);
    })

-- a row has gone from both
pub lies_removed : {V : Type 0} (most first second first' second' at : ℕ) (ps ps' : List Pair) (vs vs' : List V) → Lies most first second ps vs → at < length ps
    → ps' ≡ remove ps at → vs' ≡ remove vs at → first' ≡ first → second' ≡ second → Lies most first' second' ps' vs'
lies_removed most first second first' second' at ps ps' vs vs' lies lt fp fv gf gs =
    let a = length-remove ps at lt in let e = lies.same in let b = length-remove vs at (omega (arith, e, lt)) in
    rw (fp, fv, gf, gs) (record {
      sorted = sorted_remove ps at lies.sorted;
      same = omega (arith, a, b, e);
      room = let r = lies.room in omega (arith, a, r);
      first_room = lies.first_room;
      second_room = lies.second_room;
    })

-- what is there after an insertion that had room
pub inserted : {X : Type 0} (b : Bool) (xs ys : List X) (at : ℕ) (x : X) → b ≡ true → ys ≡ (if b then insert xs at x else xs) → ys ≡ insert xs at x
inserted true xs ys at x e h = h
inserted false xs ys at x e h = absurd (cc)

-- there is room for one more
pub fits : {n count most first : ℕ} {P : Type 0} → n ≡ count → count < most → most ≤ first → (n < first → P) → P
fits same room has f = f (omega (arith, same, room, has))

-- what is at a place in both lists
module _ {V : Type 0} (ps qs : List Pair) (vs ws : List V) (i : ℕ) (e : length vs ≡ length ps) (pairs : qs ≡ ps) where
  pub none_first : false ≡ nat_lt i (length qs) → None ≡ slice_get (zip ps vs) i
  none_first h = none_zip ps vs i e (let n = ap length pairs in grind (arith, nat_tests))

  pub none_second : ws ≡ vs → false ≡ nat_lt i (length ws) → None ≡ slice_get (zip ps vs) i
  none_second values h = none_zip ps vs i e (let n = ap length values in grind (arith, nat_tests))

  pub some_both : ws ≡ vs → true ≡ nat_lt i (length qs) → (p : Pair) → p ≡ get_or qs i p → (v : V) → v ≡ get_or ws i v → Some (p, v) ≡ slice_get (zip ps vs) i
  some_both values h p f v g =
      let lt : i < length ps = let n = ap length pairs in grind (arith, nat_tests) in
      get_zip ps vs i e p v
      (slice_get_read ps (length ps) i p refl lt (subst (λ (xs : List Pair). p ≡ get_or xs i p) pairs f))
      (slice_get_read vs (length vs) i v refl (omega (arith, lt, e)) (subst (λ (xs : List V). v ≡ get_or xs i v) values g))
