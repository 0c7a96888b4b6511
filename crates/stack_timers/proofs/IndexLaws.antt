-- A list of entries, and a table of the same, after one was put in or taken out.
use Rattle.std.proofs.Common.{◌≡◌, ℕ, suc, zero, ◌+◌, ◌≤◌, Bool, true, false, List, [], ◌∷◌, length, Option, Some, None, refl, sym, ap, ◌∙◌, arith}
use Rattle.std.specs.Prelude.{cond, ⊤, ◌||◌, ◌++◌, is_some, if◌then◌else◌}
use Rattle.std.specs.List.{insert}
use Rattle.std.specs.BTreeMap.{is_at, insert_entry}
use Rattle.std.specs.Map.{keys_of, lookup, remove_entry}
use Rattle.std.specs.Ordering.{is_eq, match_ordering}
use Rattle.std.specs.declared.cmp.Ordering.{Ordering}
use Rattle.std.specs.declared.cmp.Ordering.TheVariants.{Less, Equal, Greater}
use Rattle.std.specs.Cmp.{eq_by_cmp_equiv}
use Rattle.std.proofs.lemmas.List.Edits.{length-insert}
use Rattle.std.proofs.lemmas.Map.{lookup-remove_entry}
use Rattle.std.proofs.lemmas.Map.Keys.{IsDistinct-from_sorted}
use Rattle.book_base.specs.declared.address.Pair.{Pair}
use Rattle.book_base.specs.contracts.address.PairOrd.TheImpl.Laws as pair_laws
use Rattle.book_base.specs.Orders.{by_pair}
use Rattle.book_base.proofs.OrderLaws.{pair_tied, pair_told}
use Rattle.book_stack.specs.declared.alarm.Alarm.{Alarm}
use Rattle.book_stack.specs.Alarms.{stands_in, without_alarm, without_pair}
use Rattle.law_node.proofs.PairMaps.{pair_finds}
use Rattle.pair_table.specs.Listings.{IsListing, Listing, of_entries}
use Rattle.stack_timers.specs.Indexes.{IsKept, Once, alarm_entries, pair_entries}

-- what is found for a pair
abbrev pub found : {V : Type 0} → Pair → List (Pair × V) → Option V
found q es = lookup (is_at (by_pair q)) es

-- a pair that is two others makes them one
both : (q p r : Pair) → is_at (by_pair q) p ≡ true → is_at (by_pair q) r ≡ true → is_at (by_pair p) r ≡ true
both q p r e f = let is : p ≡ r = sym (pair_told q p e) ∙ pair_told q r f in rw is (pair_tied r)

-- the test, turned
pub turned : (p q : Pair) → is_at (by_pair p) q ≡ is_at (by_pair q) p
turned p q = at (is_at (by_pair p) q) (is_at (by_pair q) p) refl refl
  where
    at : (v w : Bool) → is_at (by_pair p) q ≡ v → is_at (by_pair q) p ≡ w → v ≡ w
    at true true f g = refl
    at false false f g = refl
    at true false f g = let back = both p q p f (pair_tied p) in absurd (cc)
    at false true f g = let back = both q p q g (pair_tied q) in absurd (cc)

module _ {V : Type 0} where
  -- two tests that don't pass together may be asked in either order
  swapped : (a b : Bool) (v w o : Option V) → (a ≡ true → b ≡ true → v ≡ w) → cond b w (cond a v o) ≡ cond a v (cond b w o)
  swapped true true v w o e = sym (e refl refl)
  swapped true false v w o e = refl
  swapped false true v w o e = refl
  swapped false false v w o e = refl

  -- a table after an entry was put
  pub found_put : (p : Pair) (v : V) (q : Pair) (es : List (Pair × V)) → found q (insert_entry by_pair es p v) ≡ cond (is_at (by_pair q) p) (Some v) (found q es)
  found_put p v q [] = refl
  found_put p v q (x ∷ es) = at (by_pair p x.0) refl (found_put p v q es)
    where
      same : (b : Bool) → cond b (Some v) (found q es) ≡ cond b (Some v) (cond b (Some x.1) (found q es))
      same true = refl
      same false = refl

      apart : by_pair p x.0 ≡ Greater → is_at (by_pair q) p ≡ true → is_at (by_pair q) x.0 ≡ true → Some v ≡ Some x.1
      apart o e f = let t = both q p x.0 e f in let u = ap is_eq o in absurd (cc)

      at : (o : Ordering) → by_pair p x.0 ≡ o → found q (insert_entry by_pair es p v) ≡ cond (is_at (by_pair q) p) (Some v) (found q es)
          → found q (match_ordering o ((p, v) ∷ x ∷ es) ((x.0, v) ∷ es) (x ∷ insert_entry by_pair es p v))
          ≡ cond (is_at (by_pair q) p) (Some v) (cond (is_at (by_pair q) x.0) (Some x.1) (found q es))
      at Less o h = refl
      at Equal o h = rw (pair_told p x.0 (ap is_eq o)) (same (is_at (by_pair q) x.0))
      at Greater o h = rw h (swapped (is_at (by_pair q) p) (is_at (by_pair q) x.0) (Some v) (Some x.1) (found q es) (apart o))

  -- a list after an entry of another pair was put
  pub found_inserted : (p : Pair) (v : V) (q : Pair) (i : ℕ) (es : List (Pair × V)) → found p es ≡ None → found q (insert es i (p, v)) ≡ cond (is_at (by_pair q) p) (Some v) (found q es)
  found_inserted p v q zero es none = refl
  found_inserted p v q (suc i) [] none = refl
  found_inserted p v q (suc i) (x ∷ es) none = at (is_at (by_pair p) x.0) refl none (found_inserted p v q i es)
    where
      at : (b : Bool) → is_at (by_pair p) x.0 ≡ b → cond b (Some x.1) (found p es) ≡ None
          → (found p es ≡ None → found q (insert es i (p, v)) ≡ cond (is_at (by_pair q) p) (Some v) (found q es))
          → cond (is_at (by_pair q) x.0) (Some x.1) (found q (insert es i (p, v))) ≡ cond (is_at (by_pair q) p) (Some v) (cond (is_at (by_pair q) x.0) (Some x.1) (found q es))
      at true o k next = absurd (cc)
      at false o k next = rw (next k) (swapped (is_at (by_pair q) p) (is_at (by_pair q) x.0) (Some v) (Some x.1) (found q es) (λ e f. let t = both q p x.0 e f in absurd (cc)))

  pub once_inserted : (p : Pair) (v : V) (i : ℕ) (es : List (Pair × V)) → found p es ≡ None → Once es → Once (insert es i (p, v))
  once_inserted p v zero es none once = (none, once)
  once_inserted p v (suc i) [] none once = (refl, tt)
  once_inserted p v (suc i) (x ∷ es) none once = at (is_at (by_pair p) x.0) refl none (once_inserted p v i es)
    where
      at : (b : Bool) → is_at (by_pair p) x.0 ≡ b → cond b (Some x.1) (found p es) ≡ None → (found p es ≡ None → Once es → Once (insert es i (p, v)))
          → (found x.0 (insert es i (p, v)) ≡ None) × Once (insert es i (p, v))
      at true o k next = absurd (cc)
      at false o k next = (found_inserted p v x.0 i es k ∙ rw (turned x.0 p ∙ o) once.0, next k once.1)

  -- a list after the entry of a pair was taken out
  none_stays : (p q : Pair) (es : List (Pair × V)) → found q es ≡ None → found q (remove_entry (is_at (by_pair p)) es) ≡ None
  none_stays p q [] none = refl
  none_stays p q (x ∷ es) none = at (is_at (by_pair p) x.0) (is_at (by_pair q) x.0) refl none (none_stays p q es)
    where
      at : (b c : Bool) → is_at (by_pair q) x.0 ≡ c → cond c (Some x.1) (found q es) ≡ None → (found q es ≡ None → found q (remove_entry (is_at (by_pair p)) es) ≡ None)
          → found q (cond b es (x ∷ remove_entry (is_at (by_pair p)) es)) ≡ None
      at b true o k next = absurd (cc)
      at true false o k next = k
      at false false o k next = rw o (next k)

  pub once_gone : (p : Pair) (es : List (Pair × V)) → Once es → Once (remove_entry (is_at (by_pair p)) es)
  once_gone p [] once = tt
  once_gone p (x ∷ es) once = at (is_at (by_pair p) x.0) (once_gone p es once.1)
    where
      at : (b : Bool) → Once (remove_entry (is_at (by_pair p)) es) → Once (cond b es (x ∷ remove_entry (is_at (by_pair p)) es))
      at true next = once.1
      at false next = (none_stays p x.0 es once.0, next)

  pub found_gone : (p q : Pair) (es : List (Pair × V)) → Once es → found q (remove_entry (is_at (by_pair p)) es) ≡ cond (is_at (by_pair p) q) None (found q es)
  found_gone p q [] once = none (is_at (by_pair p) q)
    where
      empty : Option V
      empty = None

      none : (b : Bool) → empty ≡ cond b empty empty
      none true = refl
      none false = refl
  found_gone p q (x ∷ es) once = at (is_at (by_pair p) x.0) (is_at (by_pair q) x.0) (is_at (by_pair p) q) refl refl refl (found_gone p q es once.1)
    where
      at : (b c d : Bool) → is_at (by_pair p) x.0 ≡ b → is_at (by_pair q) x.0 ≡ c → is_at (by_pair p) q ≡ d
          → found q (remove_entry (is_at (by_pair p)) es) ≡ cond d None (found q es)
          → found q (cond b es (x ∷ remove_entry (is_at (by_pair p)) es)) ≡ cond d None (cond c (Some x.1) (found q es))
      at true true true e f g h = let is : x.0 ≡ q = sym (pair_told q x.0 f) in rw is at once.0
      at true true false e f g h = let t = both x.0 p q (turned x.0 p ∙ e) (turned x.0 q ∙ f) in absurd (cc)
      at true false true e f g h = let t = both p q x.0 g e in absurd (cc)
      at true false false e f g h = refl
      at false true true e f g h = let t = both q p x.0 (turned q p ∙ g) f in absurd (cc)
      at false true false e f g h = rw f refl
      at false false true e f g h = rw f h
      at false false false e f g h = rw f h

  -- how many there are
  length_gone : (p : Pair) (es : List (Pair × V)) (v : V) → found p es ≡ Some v → length (remove_entry (is_at (by_pair p)) es) + 1 ≡ length es
  length_gone p [] v h = absurd (cc)
  length_gone p (x ∷ es) v h = at (is_at (by_pair p) x.0) h (length_gone p es v)
    where
      at : (b : Bool) → cond b (Some x.1) (found p es) ≡ Some v → (found p es ≡ Some v → length (remove_entry (is_at (by_pair p)) es) + 1 ≡ length es)
          → length (cond b es (x ∷ remove_entry (is_at (by_pair p)) es)) + 1 ≡ length (x ∷ es)
      at true k next = omega arith
      at false k next = let n = next k in omega (arith, n)

  length_put : (p : Pair) (v : V) (es : List (Pair × V)) → found p es ≡ None → length (insert_entry by_pair es p v) ≡ length es + 1
  length_put p v [] none = refl
  length_put p v (x ∷ es) none = at (by_pair p x.0) none (length_put p v es)
    where
      at : (o : Ordering) → cond (is_eq o) (Some x.1) (found p es) ≡ None → (found p es ≡ None → length (insert_entry by_pair es p v) ≡ length es + 1)
          → length (match_ordering o ((p, v) ∷ x ∷ es) ((x.0, v) ∷ es) (x ∷ insert_entry by_pair es p v)) ≡ length (x ∷ es) + 1
      at Less k next = omega arith
      at Equal k next = absurd (cc)
      at Greater k next = let n = next k in omega (arith, n)

  -- where a pair has no entry, none goes
  nothing_gone : (p : Pair) (es : List (Pair × V)) → found p es ≡ None → remove_entry (is_at (by_pair p)) es ≡ es
  nothing_gone p [] none = refl
  nothing_gone p (x ∷ es) none = at (is_at (by_pair p) x.0) none (nothing_gone p es)
    where
      at : (b : Bool) → cond b (Some x.1) (found p es) ≡ None → (found p es ≡ None → remove_entry (is_at (by_pair p)) es ≡ es)
          → cond b es (x ∷ remove_entry (is_at (by_pair p)) es) ≡ x ∷ es
      at true k next = absurd (cc)
      at false k next = ap (λ (l : List (Pair × V)). x ∷ l) (next k)

  pub kept_missed : (room : ℕ) (t : Listing V) (es : List (Pair × V)) (p : Pair) → IsKept room t es → found p t.entries ≡ None → IsKept room (of_entries t (remove_entry (is_at (by_pair p)) t.entries)) es
  kept_missed room t es p kept none = rw (nothing_gone p t.entries none) kept

  -- there may be more room
  pub roomier : (room more : ℕ) (t : Listing V) (es : List (Pair × V)) → room ≤ more → IsKept room t es → IsKept more t es
  roomier room more t es le kept = record { finds = kept.finds; once = kept.once; same = kept.same; enough = let e = kept.enough in omega (arith, e, le) }

  -- list and table after the entry of a pair was taken out of both
  pub kept_gone : (room : ℕ) (t : Listing V) (es : List (Pair × V)) (p : Pair) (v : V) → IsListing t → IsKept room t es → found p t.entries ≡ Some v
      → IsKept room (of_entries t (remove_entry (is_at (by_pair p)) t.entries)) (remove_entry (is_at (by_pair p)) es)
  kept_gone room t es p v sound kept e = record {
    finds = λ q. lookup-remove_entry (eq_by_cmp_equiv pair_laws.total-law) (is_at (by_pair p)) (λ x y h. ap (λ (k : Pair). is_at (by_pair k) y) (pair_told p x h)) q t.entries (IsDistinct-from_sorted by_pair (keys_of t.entries) sound.sorted)
        ∙ ap (λ (o : Option V). cond (is_at (by_pair p) q) None o) (kept.finds q) ∙ sym (found_gone p q es kept.once);
    once = once_gone p es kept.once;
    same = let a = length_gone p t.entries v e in let b = length_gone p es v (sym (kept.finds p) ∙ e) in let c = kept.same in omega (arith, a, b, c);
    enough = kept.enough;
  }

  -- list and table after an entry of another pair was put in both
  pub kept_put : (room : ℕ) (t : Listing V) (es : List (Pair × V)) (p : Pair) (v : V) (i : ℕ) → IsKept room t es → found p t.entries ≡ None → i ≤ length es
      → IsKept room (of_entries t (insert_entry by_pair t.entries p v)) (insert es i (p, v))
  kept_put room t es p v i kept none le =
      let none_there = sym (kept.finds p) ∙ none in record {
        finds = λ q. found_put p v q t.entries ∙ ap (λ (o : Option V). cond (is_at (by_pair q) p) (Some v) o) (kept.finds q) ∙ sym (found_inserted p v q i es none_there);
        once = once_inserted p v i es none_there kept.once;
        same = let a = length_put p v t.entries none in let b = length-insert es i (p, v) le in let c = kept.same in omega (arith, a, b, c);
        enough = kept.enough;
      }

-- an alarm that goes, goes from the entries, and so does a pair
pub alarm_entries_gone : (p : Pair) (xs : List Alarm) → alarm_entries (without_alarm p xs) ≡ remove_entry (is_at (by_pair p)) (alarm_entries xs)
alarm_entries_gone p [] = refl
alarm_entries_gone p (a ∷ xs) = rw (← pair_finds a.pair p, turned a.pair p) (at (is_at (by_pair p) a.pair) (alarm_entries_gone p xs))
  where
    at : (b : Bool) → alarm_entries (without_alarm p xs) ≡ remove_entry (is_at (by_pair p)) (alarm_entries xs)
        → alarm_entries (if b then xs else a ∷ without_alarm p xs) ≡ cond b (alarm_entries xs) ((a.pair, a.deadline) ∷ remove_entry (is_at (by_pair p)) (alarm_entries xs))
    at true h = refl
    at false h = ap (λ (es : List (Pair × ℕ)). (a.pair, a.deadline) ∷ es) h

pub pair_entries_gone : (p : Pair) (xs : List Pair) → pair_entries (without_pair p xs) ≡ remove_entry (is_at (by_pair p)) (pair_entries xs)
pair_entries_gone p [] = refl
pair_entries_gone p (q ∷ xs) = rw (← pair_finds q p, turned q p) (at (is_at (by_pair p) q) (pair_entries_gone p xs))
  where
    at : (b : Bool) → pair_entries (without_pair p xs) ≡ remove_entry (is_at (by_pair p)) (pair_entries xs)
        → pair_entries (if b then xs else q ∷ without_pair p xs) ≡ cond b (pair_entries xs) ((q, tt) ∷ remove_entry (is_at (by_pair p)) (pair_entries xs))
    at true h = refl
    at false h = ap (λ (es : List (Pair × ⊤)). (q, tt) ∷ es) h

-- an alarm that is put in a place, is put there in the entries, and so is a pair at the end
pub alarm_entries_put : (i : ℕ) (a : Alarm) (xs : List Alarm) → alarm_entries (insert xs i a) ≡ insert (alarm_entries xs) i (a.pair, a.deadline)
alarm_entries_put zero a xs = refl
alarm_entries_put (suc i) a [] = refl
alarm_entries_put (suc i) a (x ∷ xs) = ap (λ (es : List (Pair × ℕ)). (x.pair, x.deadline) ∷ es) (alarm_entries_put i a xs)

pub pair_entries_put : (p : Pair) (xs : List Pair) → pair_entries (xs ++ p ∷ []) ≡ insert (pair_entries xs) (length xs) (p, tt)
pair_entries_put p [] = refl
pair_entries_put p (x ∷ xs) = ap (λ (es : List (Pair × ⊤)). (x, tt) ∷ es) (pair_entries_put p xs)

-- there are as many entries
pub length_alarm_entries : (xs : List Alarm) → length (alarm_entries xs) ≡ length xs
length_alarm_entries [] = refl
length_alarm_entries (x ∷ xs) = ap suc (length_alarm_entries xs)

pub length_pair_entries : (xs : List Pair) → length (pair_entries xs) ≡ length xs
length_pair_entries [] = refl
length_pair_entries (x ∷ xs) = ap suc (length_pair_entries xs)

-- a pair that has no entry has no alarm, and stands nowhere; one that has an entry stands in line
pub no_alarm : (p : Pair) (xs : List Alarm) → found p (alarm_entries xs) ≡ None → without_alarm p xs ≡ xs
no_alarm p [] none = refl
no_alarm p (a ∷ xs) none = rw (← pair_finds a.pair p, turned a.pair p) (at (is_at (by_pair p) a.pair) none (no_alarm p xs))
  where
    at : (b : Bool) → cond b (Some a.deadline) (found p (alarm_entries xs)) ≡ None → (found p (alarm_entries xs) ≡ None → without_alarm p xs ≡ xs)
        → (if b then xs else a ∷ without_alarm p xs) ≡ a ∷ xs
    at true k next = absurd (cc)
    at false k next = ap (λ (l : List Alarm). a ∷ l) (next k)

pub no_pair : (p : Pair) (xs : List Pair) → found p (pair_entries xs) ≡ None → without_pair p xs ≡ xs
no_pair p [] none = refl
no_pair p (q ∷ xs) none = rw (← pair_finds q p, turned q p) (at (is_at (by_pair p) q) none (no_pair p xs))
  where
    at : (b : Bool) → cond b (Some tt) (found p (pair_entries xs)) ≡ None → (found p (pair_entries xs) ≡ None → without_pair p xs ≡ xs)
        → (if b then xs else q ∷ without_pair p xs) ≡ q ∷ xs
    at true k next = absurd (cc)
    at false k next = ap (λ (ps : List Pair). q ∷ ps) (next k)

pub stands : (p : Pair) (xs : List Pair) → stands_in p xs ≡ is_some (found p (pair_entries xs))
stands p [] = refl
stands p (q ∷ xs) = rw (← pair_finds q p, turned q p) (at (is_at (by_pair p) q) (stands p xs))
  where
    at : (b : Bool) → stands_in p xs ≡ is_some (found p (pair_entries xs)) → (b || stands_in p xs) ≡ is_some (cond b (Some tt) (found p (pair_entries xs)))
    at true h = refl
    at false h = h
