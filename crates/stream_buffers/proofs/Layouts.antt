-- A pool's layout: what each call leaves.
use Rattle.std.proofs.Common.{◌≡◌, ◌≢◌, ℕ, zero, suc, ◌+◌, ◌<◌, ◌≤◌, List, [], ◌∷◌, ◌++◌, length, get_or, set, replicate, Option, None, Some, refl, sym, ◌∙◌, ap, inl, inr, arith, length-set, length-append}
use Rattle.std.proofs.lemmas.List.{get_or-set_same, get_or-set_other, get_or-replicate, length-replicate}
use Rattle.std.proofs.lemmas.Bool.{cases_eq, cases_lt, cond_below, cond_above}
use Rattle.std.specs.Prelude.{if◌then◌else◌, nat_lt}
use Rattle.stream_buffers.specs.declared.slot.Slot.{Slot}
use Rattle.stream_buffers.specs.Pool.{pool, uses, IsPool}
use Rattle.stream_buffers.specs.Links.{Spare, Layout, seen, count_of}
use Rattle.stream_buffers.proofs.Counts.{once_same, once_when, once_other, none_first, none_rest, below, not_at_end, at_most_once, uses-append, uses-first}
use Rattle.stream_buffers.proofs.Circles.{last_index, first_index, Alone, uses-last, Links-next, Links-insert, Links-remove, Links-set, walk-circle, Spare-next}

module _ {T : Type 0} where
  module _ {capacity : ℕ} {items : List (Option T)} {next prev : List ℕ} {free : ℕ} {used : List (Slot × T)} {spare : List ℕ} where
    pub used_below : Layout capacity items next prev free used spare → (k : ℕ) → 1 ≤ uses k used → k < capacity
    used_below h k u = below k capacity _ (h.each k) (omega arith)

    pub none_at_end : Layout capacity items next prev free used spare → uses capacity used ≡ 0
    none_at_end h = omega (arith, not_at_end capacity _ (h.each capacity))

    pub alone : Layout capacity items next prev free used spare → Alone capacity used capacity
    alone h = record {
      front = none_at_end h;
      back = none_at_end h;
      each = λ k. omega (arith, at_most_once k capacity _ (h.each k));
    }

    pub seen_is : Layout capacity items next prev free used spare → seen capacity items next ≡ pool capacity used
    seen_is h = ap (pool capacity) (walk-circle items next prev capacity used capacity capacity h.circle h.end (omega (arith, h.total)))

    pub sound : Layout capacity items next prev free used spare → IsPool (seen capacity items next)
    sound h = rw (seen_is h) (record {
      distinct = λ s. omega (arith, at_most_once s.index capacity _ (h.each s.index));
      fits = omega (arith, h.total);
    })

    pub spare_below : Layout capacity items next prev free used spare → (k : ℕ) → 1 ≤ count_of k spare → k < capacity
    spare_below h k u = below k capacity _ (h.each k) (omega arith)

    -- a used node isn't unused
    pub not_spare : Layout capacity items next prev free used spare → (k : ℕ) → 1 ≤ uses k used → count_of k spare ≡ 0
    not_spare h k u = omega (arith, at_most_once k capacity _ (h.each k))

    pub not_used : Layout capacity items next prev free used spare → (k : ℕ) → 1 ≤ count_of k spare → uses k used ≡ 0
    not_used h k u = omega (arith, at_most_once k capacity _ (h.each k))

  -- the pool is full exactly where the first unused node is the end
  pub full : (capacity : ℕ) (items : List (Option T)) (next prev : List ℕ) (free : ℕ) (used : List (Slot × T)) (spare : List ℕ) → Layout capacity items next prev free used spare → free ≡ capacity → length used ≡ capacity
  full capacity items next prev free used [] h e = omega (arith, h.total)
  full capacity items next prev free used (f ∷ fs) h e =
      let none : count_of capacity (f ∷ fs) ≡ 0 = omega (arith, not_at_end capacity _ (h.each capacity)) in
      absurd (none_first capacity f _ none (sym e ∙ h.unused.0))

  pub not_full : (capacity : ℕ) (items : List (Option T)) (next prev : List ℕ) (free : ℕ) (used : List (Slot × T)) (spare : List ℕ) → Layout capacity items next prev free used spare → free ≢ capacity → (fs : List ℕ) × (spare ≡ free ∷ fs)
  not_full capacity items next prev free used [] h ne = absurd (ne h.unused)
  not_full capacity items next prev free used (f ∷ fs) h ne = (fs, ap (λ k. k ∷ fs) (sym h.unused.0))

  -- the node behind which a pair comes is used or the end, and so is the one behind it
  pub here_within : (capacity : ℕ) (items : List (Option T)) (next prev : List ℕ) (free : ℕ) (before after : List (Slot × T)) (spare : List ℕ) → Layout capacity items next prev free (before ++ after) spare → (last_index capacity before < capacity + 1) × (count_of (last_index capacity before) spare ≡ 0)
  here_within capacity items next prev free [] after spare h = (omega arith, omega (arith, not_at_end capacity _ (h.each capacity)))
  here_within capacity items next prev free (p ∷ ps) after spare h =
      let here = last_index p.0.index ps in
      let u : 1 ≤ uses here ((p ∷ ps) ++ after) = omega (arith, uses-last p ps, uses-append here (p ∷ ps) after) in
      (omega (arith, used_below h here u), not_spare h here u)

  pub there_within : (capacity : ℕ) (items : List (Option T)) (next prev : List ℕ) (free : ℕ) (before after : List (Slot × T)) (spare : List ℕ) → Layout capacity items next prev free (before ++ after) spare → first_index after capacity < capacity + 1
  there_within capacity items next prev free before [] spare h = omega arith
  there_within capacity items next prev free before (p ∷ ps) spare h =
      let i = p.0.index in
      omega (arith, used_below h i (omega (arith, uses-first p ps, uses-append i before (p ∷ ps))))

  pub behind_within : (capacity : ℕ) (items : List (Option T)) (next prev : List ℕ) (free : ℕ) (before : List (Slot × T)) (p : Slot × T) (after : List (Slot × T)) (spare : List ℕ) → Layout capacity items next prev free (before ++ p ∷ after) spare → first_index after capacity < capacity + 1
  behind_within capacity items next prev free before p [] spare h = omega arith
  behind_within capacity items next prev free before p (q ∷ qs) spare h =
      let i = q.0.index in
      omega (arith, used_below h i (omega (arith, uses-first q qs, uses-append i before (p ∷ q ∷ qs))))

  -- the first unused node joins the used ones
  pub inserted : (capacity : ℕ) (items : List (Option T)) (next prev : List ℕ) (free : ℕ) (x : T) (before after : List (Slot × T)) (fs : List ℕ) → Layout capacity items next prev free (before ++ after) (free ∷ fs)
      → Layout capacity (set items free (Some x)) (set (set next free (first_index after capacity)) (last_index capacity before) free) (set (set prev free (last_index capacity before)) (first_index after capacity) free) (get_or next free 0) (before ++ (record { index = free }, x) ∷ after) fs
  inserted capacity items next prev free x before after fs h =
      let s : Slot = record { index = free } in
      let here = last_index capacity before in
      let there = first_index after capacity in
      let u : 1 ≤ count_of free (free ∷ fs) = omega (arith, once_same free) in
      let within : free < capacity = spare_below h free u in
      let none : uses free (before ++ after) ≡ 0 = not_used h free u in
      let apart : count_of free fs ≡ 0 = omega (arith, at_most_once free capacity _ (h.each free), once_same free) in
      record {
        items_length = length-set items free (Some x) ∙ h.items_length;
        next_length = length-set (set next free there) here free ∙ (length-set next free there ∙ h.next_length);
        prev_length = length-set (set prev free here) there free ∙ (length-set prev free here ∙ h.prev_length);
        end = get_or-set_other items free capacity (Some x) None (λ e. omega arith) ∙ h.end;
        circle = Links-insert items next prev s x capacity before after capacity (omega (arith, h.items_length)) (omega (arith, h.next_length)) (omega (arith, h.prev_length)) (omega (arith, h.next_length)) (omega (arith, h.prev_length)) (λ k v. omega (arith, h.next_length, used_below h k v)) (h.next_length ∙ sym h.prev_length) (alone h) none (λ e. omega arith) (λ e. omega arith) h.circle;
        unused = Spare-next _ here free _ fs capacity (none_rest here free _ (here_within capacity items next prev free before after (free ∷ fs) h).1) (Spare-next next free there _ fs capacity apart h.unused.1);
        each = λ k. omega (arith, h.each k, uses-append k before after, uses-append k before ((s, x) ∷ after));
        total = omega (arith, h.total, length-append before after, length-append before ((s, x) ∷ after));
      }

  -- a used node becomes the first unused one
  pub removed : (capacity : ℕ) (items : List (Option T)) (next prev : List ℕ) (free : ℕ) (s : Slot) (x : T) (before after : List (Slot × T)) (spare : List ℕ) → Layout capacity items next prev free (before ++ (s, x) ∷ after) spare
      → Layout capacity items (set (set next (last_index capacity before) (first_index after capacity)) s.index free) (set prev (first_index after capacity) (last_index capacity before)) s.index (before ++ after) (s.index ∷ spare)
  removed capacity items next prev free s x before after spare h =
      let here = last_index capacity before in
      let there = first_index after capacity in
      let u : 1 ≤ uses s.index (before ++ (s, x) ∷ after) = omega (arith, uses-first (s, x) after, uses-append s.index before ((s, x) ∷ after)) in
      let within : s.index < capacity = used_below h s.index u in
      let none : uses s.index (before ++ after) ≡ 0 = omega (arith, (alone h).each s.index, once_same s.index, uses-append s.index before ((s, x) ∷ after), uses-append s.index before after) in
      let back : get_or (set (set next here there) s.index free) s.index 0 ≡ free = get_or-set_same (set next here there) s.index free 0 (omega (arith, length-set next here there, h.next_length)) in
      record {
        items_length = h.items_length;
        next_length = length-set (set next here there) s.index free ∙ (length-set next here there ∙ h.next_length);
        prev_length = length-set prev there here ∙ h.prev_length;
        end = h.end;
        circle = Links-next items _ _ s.index free capacity (before ++ after) capacity (λ e. omega arith) none (Links-remove items next prev capacity before (s, x) after capacity (omega (arith, h.next_length)) (omega (arith, h.prev_length)) (λ k v. omega (arith, h.next_length, used_below h k v)) (h.next_length ∙ sym h.prev_length) (alone h) h.circle);
        unused = (refl, rw back (Spare-next _ s.index free free spare capacity (not_spare h s.index u) (Spare-next next here there free spare capacity (here_within capacity items next prev free before ((s, x) ∷ after) spare h).1 h.unused)));
        each = λ k. omega (arith, h.each k, uses-append k before after, uses-append k before ((s, x) ∷ after));
        total = omega (arith, h.total, length-append before after, length-append before ((s, x) ∷ after));
      }

  pub item_set : (capacity : ℕ) (items : List (Option T)) (next prev : List ℕ) (free : ℕ) (s : Slot) (x y : T) (before after : List (Slot × T)) (spare : List ℕ) → Layout capacity items next prev free (before ++ (s, x) ∷ after) spare
      → Layout capacity (set items s.index (Some y)) next prev free (before ++ (s, y) ∷ after) spare
  item_set capacity items next prev free s x y before after spare h =
      let u : 1 ≤ uses s.index (before ++ (s, x) ∷ after) = omega (arith, uses-first (s, x) after, uses-append s.index before ((s, x) ∷ after)) in
      let within : s.index < capacity = used_below h s.index u in
      record {
        items_length = length-set items s.index (Some y) ∙ h.items_length;
        next_length = h.next_length;
        prev_length = h.prev_length;
        end = get_or-set_other items s.index capacity (Some y) None (λ e. omega arith) ∙ h.end;
        circle = Links-set items next prev capacity before s x y after capacity (omega (arith, h.items_length)) (alone h).each h.circle;
        unused = h.unused;
        each = λ k. omega (arith, h.each k, uses-append k before ((s, y) ∷ after), uses-append k before ((s, x) ∷ after));
        total = omega (arith, h.total, length-append before ((s, y) ∷ after), length-append before ((s, x) ∷ after));
      }

-- the numbers from one on, so many
abbrev pub counting : ℕ → ℕ → List ℕ
counting k zero = []
counting k (suc n) = k ∷ counting (k + 1) n

length-counting : (k n : ℕ) → length (counting k n) ≡ n
length-counting k zero = refl
length-counting k (suc n) = ap suc (length-counting (k + 1) n)

Spare-counting : (next : List ℕ) (k n end : ℕ) → k + n ≡ end → ((i : ℕ) → i < end → get_or next i 0 ≡ i + 1) → Spare next k (counting k n) end
Spare-counting next k zero end e each = omega arith
Spare-counting next k (suc n) end e each =
    let there : get_or next k 0 ≡ k + 1 = each k (omega arith) in
    (refl, rw there (Spare-counting next (k + 1) n end (omega arith) each))

count_of-below : (j k n : ℕ) → j < k → count_of j (counting k n) ≡ 0
count_of-below j k zero lt = refl
count_of-below j k (suc n) lt = omega (arith, once_other j k (λ e. omega arith), count_of-below j (k + 1) n (omega arith))

count_of-above : (j k n : ℕ) → k + n ≤ j → count_of j (counting k n) ≡ 0
count_of-above j k zero le = refl
count_of-above j k (suc n) le = omega (arith, once_other j k (λ e. omega arith), count_of-above j (k + 1) n (omega arith))

count_of-within : (j k n : ℕ) → k ≤ j → j < k + n → count_of j (counting k n) ≡ 1
count_of-within j k zero le lt = absurd (omega arith)
count_of-within j k (suc n) le lt =
    elim (cases_eq j k) [
      | inl e ↦ omega (arith, once_when j k e, count_of-below j (k + 1) n (omega arith))
      | inr ne ↦ omega (arith, once_other j k ne, count_of-within j (k + 1) n (omega arith) (omega arith))
    ]

each_of_counting : (n j : ℕ) → count_of j (counting 0 n) ≡ (if nat_lt j n then 1 else 0)
each_of_counting n j =
    elim (cases_lt j n) [
      | inl lt ↦ count_of-within j 0 n (omega arith) (omega arith) ∙ cond_below j n 1 0 lt
      | inr ge ↦ count_of-above j 0 n (omega arith) ∙ cond_above j n 1 0 0 ge refl
    ]

-- a new pool
pub made : {T : Type 0} (capacity : ℕ) (items : List (Option T)) (next prev : List ℕ) → items ≡ replicate (capacity + 1) None → prev ≡ replicate (capacity + 1) capacity → length next ≡ capacity + 1 → ((i : ℕ) → i < capacity → get_or next i 0 ≡ i + 1) → get_or next capacity 0 ≡ capacity
    → Layout capacity items next prev 0 [] (counting 0 capacity)
made capacity items next prev empty back long each last = record {
  items_length = ap length empty ∙ length-replicate (capacity + 1) None;
  next_length = long;
  prev_length = ap length back ∙ length-replicate (capacity + 1) capacity;
  end = rw empty (get_or-replicate (capacity + 1) capacity None None (omega arith));
  circle = (last, rw back (get_or-replicate (capacity + 1) capacity capacity 0 (omega arith)));
  unused = Spare-counting next 0 capacity capacity (omega arith) each;
  each = λ k. omega (arith, each_of_counting capacity k);
  total = omega (arith, length-counting 0 capacity);
}
