-- What is found after an entry was put, and another one went.
use Rattle.std.proofs.Common.{◌≡◌, ◌⊎◌, ◌+◌, ℕ, Bool, true, false, List, [], ◌∷◌, length, Option, Some, None, refl, sym, ap, subst, ◌∙◌, inl, inr, arith}
use Rattle.std.specs.Prelude.{cond, if◌then◌else◌, nat_lt}
use Rattle.std.specs.BTreeMap.{is_at, insert_entry}
use Rattle.std.specs.List.Sorted.{IsStrictlySortedBy}
use Rattle.std.specs.Map.{keys_of, remove_entry}
use Rattle.std.specs.Ordering.{is_eq, match_ordering}
use Rattle.std.specs.declared.cmp.Ordering.{Ordering}
use Rattle.std.specs.declared.cmp.Ordering.TheVariants.{Less, Equal, Greater}
use Rattle.std.specs.Cmp.{eq_by_cmp_equiv}
use Rattle.std.proofs.lemmas.Map.{lookup-remove_entry}
use Rattle.std.proofs.lemmas.Map.Keys.{IsDistinct-from_sorted, sorted_tail}
use Rattle.book_base.specs.declared.address.Pair.{Pair}
use Rattle.book_base.specs.contracts.address.PairOrd.TheImpl.Laws as pair_laws
use Rattle.book_base.specs.Orders.{by_pair}
use Rattle.book_base.proofs.OrderLaws.{pair_told}
use Rattle.shim_pairs.specs.declared.entry.Entry.{Entry}
use Rattle.shim_pairs.specs.Holdings.{eldest, found, going, without}
use Rattle.shim_pairs.proofs.EldestLaws.{eldest_found}

-- what is found is the entry that was put, or was found before
abbrev pub AreOf : Pair → Entry → (before after : List (Pair × Entry)) → Type 0
AreOf p e before after = (q : Pair) (f : Entry) → found q after ≡ Some f → ((q ≡ p) × (f ≡ e)) ⊎ (found q before ≡ Some f)

at_cond : {A : Type 0} (b : Bool) (x y : A) (P : A → Type 0) → (b ≡ true → P x) → (b ≡ false → P y) → P (cond b x y)
at_cond true x y P f g = f refl
at_cond false x y P f g = g refl

-- of an entry that was put
pub put_are : (p : Pair) (e : Entry) (es : List (Pair × Entry)) → AreOf p e es (insert_entry by_pair es p e)
put_are p e [] q f h = by (is_at (by_pair q) p) refl h
  where
    by : (b : Bool) → is_at (by_pair q) p ≡ b → cond b (Some e) None ≡ Some f → ((q ≡ p) × (f ≡ e)) ⊎ (None ≡ Some f)
    by true t k = let one : f ≡ e = cc in inl (pair_told q p t, one)
    by false t k = inr k
put_are p e (x ∷ es) q f h = at (by_pair p x.0) refl h (put_are p e es q f)
  where
    goal : Type 0
    goal = ((q ≡ p) × (f ≡ e)) ⊎ (cond (is_at (by_pair q) x.0) (Some x.1) (found q es) ≡ Some f)

    first : (b : Bool) → is_at (by_pair q) p ≡ b → cond b (Some e) (cond (is_at (by_pair q) x.0) (Some x.1) (found q es)) ≡ Some f → goal
    first true t k = let one : f ≡ e = cc in inl (pair_told q p t, one)
    first false t k = inr k

    same : by_pair p x.0 ≡ Equal → (b : Bool) → is_at (by_pair q) x.0 ≡ b → cond b (Some e) (found q es) ≡ Some f → goal
    same o true t k = let one : f ≡ e = cc in inl (pair_told q x.0 t ∙ sym (pair_told p x.0 (ap is_eq o)), one)
    same o false t k = inr (rw t k)

    later : (b : Bool) → is_at (by_pair q) x.0 ≡ b → cond b (Some x.1) (found q (insert_entry by_pair es p e)) ≡ Some f
        → (found q (insert_entry by_pair es p e) ≡ Some f → ((q ≡ p) × (f ≡ e)) ⊎ (found q es ≡ Some f)) → goal
    later true t k next = inr (rw t k)
    later false t k next = elim (next k) [ inl s ↦ inl s | inr w ↦ inr (rw t w) ]

    at : (o : Ordering) → by_pair p x.0 ≡ o → found q (match_ordering o ((p, e) ∷ x ∷ es) ((x.0, e) ∷ es) (x ∷ insert_entry by_pair es p e)) ≡ Some f
        → (found q (insert_entry by_pair es p e) ≡ Some f → ((q ≡ p) × (f ≡ e)) ⊎ (found q es ≡ Some f)) → goal
    at Less o k next = first (is_at (by_pair q) p) refl k
    at Equal o k next = same o (is_at (by_pair q) x.0) refl k
    at Greater o k next = later (is_at (by_pair q) x.0) refl k next

-- what is found where one went was found before
pub gone_are : (v q : Pair) (es : List (Pair × Entry)) (f : Entry) → IsStrictlySortedBy by_pair (keys_of es) → found q (remove_entry (is_at (by_pair v)) es) ≡ Some f → found q es ≡ Some f
gone_are v q es f sorted h =
    by (is_at (by_pair v) q) (sym (lookup-remove_entry (eq_by_cmp_equiv pair_laws.total-law) (is_at (by_pair v)) (λ x y t. ap (λ (k : Pair). is_at (by_pair k) y) (pair_told v x t)) q es (IsDistinct-from_sorted by_pair (keys_of es) sorted)) ∙ h)
  where
    by : (b : Bool) → cond b None (found q es) ≡ Some f → found q es ≡ Some f
    by true k = absurd (cc)
    by false k = k

pub without_are : (o : Option (Pair × Entry)) (q : Pair) (es : List (Pair × Entry)) (f : Entry) → IsStrictlySortedBy by_pair (keys_of es) → found q (without o es) ≡ Some f → found q es ≡ Some f
without_are None q es f sorted h = h
without_are (Some v) q es f sorted h = gone_are v.0 q es f sorted h

pub still_none : (o : Option (Pair × Entry)) (q : Pair) (es : List (Pair × Entry)) → IsStrictlySortedBy by_pair (keys_of es) → found q es ≡ None → found q (without o es) ≡ None
still_none o q es sorted none = by (found q (without o es)) refl
  where
    by : (r : Option Entry) → found q (without o es) ≡ r → r ≡ None
    by None h = refl
    by (Some f) h = let was = without_are o q es f sorted h in absurd (cc)

-- a pair whose place is in front of all
in_front : (p : Pair) (e : Entry) (x : Pair × Entry) (es : List (Pair × Entry)) → by_pair p x.0 ≡ Less → IsStrictlySortedBy by_pair (keys_of (x ∷ es)) → insert_entry by_pair es p e ≡ (p, e) ∷ es
unfolding IsStrictlySortedBy
in_front p e x [] less sorted = refl
in_front p e x (y ∷ es) less sorted = rw (pair_laws.total-law.trans p x.0 y.0 less sorted.0.0) refl

-- one goes and another comes about, in either order
pub swapped : (v p : Pair) (e : Entry) (es : List (Pair × Entry)) → IsStrictlySortedBy by_pair (keys_of es) → found p es ≡ None → is_at (by_pair v) p ≡ false
    → insert_entry by_pair (remove_entry (is_at (by_pair v)) es) p e ≡ remove_entry (is_at (by_pair v)) (insert_entry by_pair es p e)
swapped v p e [] sorted none apart = rw apart refl
swapped v p e (x ∷ es) sorted none apart = at (by_pair p x.0) (is_at (by_pair v) x.0) refl refl none (swapped v p e es (sorted_tail by_pair x.0 (keys_of es) sorted))
  where
    at : (o : Ordering) (b : Bool) → by_pair p x.0 ≡ o → is_at (by_pair v) x.0 ≡ b → cond (is_eq o) (Some x.1) (found p es) ≡ None
        → (found p es ≡ None → is_at (by_pair v) p ≡ false → insert_entry by_pair (remove_entry (is_at (by_pair v)) es) p e ≡ remove_entry (is_at (by_pair v)) (insert_entry by_pair es p e))
        → insert_entry by_pair (cond b es (x ∷ remove_entry (is_at (by_pair v)) es)) p e
        ≡ remove_entry (is_at (by_pair v)) (match_ordering o ((p, e) ∷ x ∷ es) ((x.0, e) ∷ es) (x ∷ insert_entry by_pair es p e))
    at Less true o t k next = in_front p e x es o sorted ∙ rw (apart, t) refl
    at Less false o t k next = rw (o, apart, t) refl
    at Equal b o t k next = absurd (cc)
    at Greater true o t k next = rw t refl
    at Greater false o t k next = rw (o, t) (ap (λ (l : List (Pair × Entry)). x ∷ l) (next k apart))

pub with_one : (o : Option (Pair × Entry)) (p : Pair) (e : Entry) (es : List (Pair × Entry)) → IsStrictlySortedBy by_pair (keys_of es) → found p es ≡ None
    → ((v : Pair × Entry) → o ≡ Some v → (f : Entry) × (found v.0 es ≡ Some f)) → insert_entry by_pair (without o es) p e ≡ without o (insert_entry by_pair es p e)
with_one None p e es sorted none held = refl
with_one (Some v) p e es sorted none held = swapped v.0 p e es sorted none (other (is_at (by_pair v.0) p) refl)
  where
    other : (b : Bool) → is_at (by_pair v.0) p ≡ b → b ≡ false
    other false h = refl
    other true h = let h' = held v refl in let was : found p es ≡ Some h'.0 = subst (λ (k : Pair). found k es ≡ Some h'.0) (pair_told v.0 p h) h'.1 in absurd (cc)

pub length_removed : (q : Pair) (es : List (Pair × Entry)) (e : Entry) → found q es ≡ Some e → length (remove_entry (is_at (by_pair q)) es) + 1 ≡ length es
length_removed q [] e h = absurd (cc)
length_removed q (x ∷ es) e h = by (is_at (by_pair q) x.0) h (length_removed q es e)
  where
    by : (b : Bool) → cond b (Some x.1) (found q es) ≡ Some e → (found q es ≡ Some e → length (remove_entry (is_at (by_pair q)) es) + 1 ≡ length es)
        → length (cond b es (x ∷ remove_entry (is_at (by_pair q)) es)) + 1 ≡ length (x ∷ es)
    by true k next = omega arith
    by false k next = let n = next k in omega (arith, n)

pub length_inserted : (p : Pair) (e : Entry) (es : List (Pair × Entry)) → found p es ≡ None → length (insert_entry by_pair es p e) ≡ length es + 1
length_inserted p e [] none = refl
length_inserted p e (x ∷ es) none = at (by_pair p x.0) none (length_inserted p e es)
  where
    at : (o : Ordering) → cond (is_eq o) (Some x.1) (found p es) ≡ None → (found p es ≡ None → length (insert_entry by_pair es p e) ≡ length es + 1)
        → length (match_ordering o ((p, e) ∷ x ∷ es) ((x.0, e) ∷ es) (x ∷ insert_entry by_pair es p e)) ≡ length (x ∷ es) + 1
    at Less k next = omega arith
    at Equal k next = absurd (cc)
    at Greater k next = let n = next k in omega (arith, n)

-- which goes is held
pub going_found : (most : ℕ) (es : List (Pair × Entry)) (v : Pair × Entry) → going most es ≡ Some v → (f : Entry) × (found v.0 es ≡ Some f)
going_found most es v h = by (nat_lt (length es) most) h
  where
    by : (b : Bool) → (if b then None else eldest es) ≡ Some v → (f : Entry) × (found v.0 es ≡ Some f)
    by true k = absurd (cc)
    by false k = eldest_found es v k
