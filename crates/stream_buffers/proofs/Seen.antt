-- What a call sees of a pool, and what it leaves.
use Rattle.std.proofs.Common.{◌≡◌, ◌≢◌, ℕ, ◌<◌, ◌≤◌, List, [], ◌∷◌, ◌++◌, length, get_or, set, Option, None, Some, refl, sym, ◌∙◌, ap, arith, subst}
use Rattle.std.proofs.lemmas.List.{get_or_read}
use Rattle.stream_buffers.specs.declared.slot.Slot.{Slot}
use Rattle.stream_buffers.specs.Pool.{Pool, pool, uses, first_slot, last_slot, IsPool, Holds}
use Rattle.stream_buffers.specs.Links.{Layout, IsLinked, seen, count_of, node_of, slot_of}
use Rattle.stream_buffers.proofs.Counts.{once_same, uses-append, uses-first}
use Rattle.stream_buffers.proofs.Circles.{last_index, first_index, Links-at, Links-behind, last_index-slot, slot_of-first, slot_of-last}
use Rattle.stream_buffers.proofs.Layouts.{used_below, none_at_end, seen_is, sound, full, not_full, spare_below, behind_within, here_within, there_within, inserted, removed, item_set}

module _ {T : Type 0} where
  pub capacity_is : (capacity : ℕ) (items : List (Option T)) (next : List ℕ) (now : Pool T) → seen capacity items next ≡ now → now.capacity ≡ capacity
  capacity_is capacity items next now e = ap (λ (p : Pool T). p.capacity) (sym e)

  module _ {capacity : ℕ} {items : List (Option T)} {next prev : List ℕ} {free : ℕ} {now : Pool T} where
    -- the pairs that are seen lie in the circle
    pub laid : (h : IsLinked capacity items next prev free) → seen capacity items next ≡ now → (ps : List (Slot × T)) → now.pairs ≡ ps → Layout capacity items next prev free ps h.spare
    laid h e ps is =
        let P : List (Slot × T) → Type 0 = λ qs. Layout capacity items next prev free qs h.spare in
        subst P (ap (λ (p : Pool T). p.pairs) (sym (seen_is h.layout) ∙ e) ∙ is) h.layout

    pub sound_now : IsLinked capacity items next prev free → seen capacity items next ≡ now → IsPool now
    sound_now h e = let P : Pool T → Type 0 = λ p. IsPool p in subst P e (sound h.layout)

    pub full_now : IsLinked capacity items next prev free → seen capacity items next ≡ now → free ≡ capacity → length now.pairs ≡ now.capacity
    full_now h e f =
        let l = laid h e now.pairs refl in
        full capacity items next prev free now.pairs h.spare l f ∙ sym (capacity_is capacity items next now e)

    pub not_full_now : IsLinked capacity items next prev free → seen capacity items next ≡ now → free ≢ capacity → length now.pairs < now.capacity
    not_full_now h e f =
        let l = laid h e now.pairs refl in
        let s = not_full capacity items next prev free now.pairs h.spare l f in
        omega (arith, l.total, capacity_is capacity items next now e, ap length s.1)

  -- the places that a call on a slot of the list reads and writes
  pub record IsAround (capacity : ℕ) (items : List (Option T)) (next prev : List ℕ) (s : Slot) (before : List (Slot × T)) (x : T) (after : List (Slot × T)) : Type 0 where
    pub item : get_or items s.index None ≡ Some x
    pub here : get_or prev s.index 0 ≡ last_index capacity before
    pub there : get_or next s.index 0 ≡ first_index after capacity
    pub in_items : s.index < length items
    pub in_next : s.index < length next
    pub in_prev : s.index < length prev
    pub here_in : last_index capacity before < length next
    pub there_in : first_index after capacity < length prev
    pub first : slot_of capacity (first_index after capacity) ≡ first_slot after
    pub last : slot_of capacity (last_index capacity before) ≡ last_slot before

  pub around : (capacity : ℕ) (items : List (Option T)) (next prev : List ℕ) (free : ℕ) (spare : List ℕ) (s : Slot) (before : List (Slot × T)) (x : T) (after : List (Slot × T)) → Layout capacity items next prev free (before ++ (s, x) ∷ after) spare → IsAround capacity items next prev s before x after
  around capacity items next prev free spare s before x after h =
      let found = uses-append s.index before ((s, x) ∷ after) in
      let u : 1 ≤ uses s.index (before ++ (s, x) ∷ after) = omega (arith, uses-first (s, x) after) in
      let within : s.index < capacity = used_below h s.index u in
      let at = Links-at items next prev capacity before (s, x) after capacity h.circle in
      let none = none_at_end h in
      let parts = uses-append capacity before ((s, x) ∷ after) in
      record {
        item = at.1;
        here = at.0;
        there = at.2;
        in_items = omega (arith, h.items_length);
        in_next = omega (arith, h.next_length);
        in_prev = omega (arith, h.prev_length);
        here_in = omega (arith, h.next_length, (here_within capacity items next prev free before ((s, x) ∷ after) spare h).0);
        there_in = omega (arith, h.prev_length, behind_within capacity items next prev free before (s, x) after spare h);
        first = slot_of-first capacity after (omega arith);
        last = slot_of-last capacity before (omega arith);
      }

  pub free_within : (capacity : ℕ) (items : List (Option T)) (next prev : List ℕ) (free : ℕ) → IsLinked capacity items next prev free → free ≢ capacity → (free < length items) × (free < length next) × (free < length prev)
  free_within capacity items next prev free h ne =
      let l = h.layout in
      let s = not_full capacity items next prev free h.used h.spare l ne in
      let u : count_of free h.spare ≡ count_of free (free ∷ s.0) = ap (count_of free) s.1 in
      let w = spare_below l free (omega (arith, once_same free)) in
      (omega (arith, l.items_length), omega (arith, l.next_length), omega (arith, l.prev_length))

  pub seen_as : {capacity : ℕ} {items : List (Option T)} {next prev : List ℕ} {free : ℕ} {used : List (Slot × T)} {spare : List ℕ} → Layout capacity items next prev free used spare → (n : ℕ) → n ≡ capacity → seen capacity items next ≡ pool n used
  seen_as {used = used} l n e = seen_is l ∙ ap (λ k. pool k used) (sym e)

  module _ {capacity : ℕ} {items : List (Option T)} {next prev : List ℕ} {free : ℕ} {now : Pool T} where
    -- the same of the pairs that are seen
    pub stands : (h : IsLinked capacity items next prev free) → seen capacity items next ≡ now → (s : Slot) (before : List (Slot × T)) (x : T) (after : List (Slot × T)) → now.pairs ≡ before ++ (s, x) ∷ after → IsAround capacity items next prev s before x after
    stands h e s before x after is = around capacity items next prev free h.spare s before x after (laid h e _ is)

    pub standing : (h : IsLinked capacity items next prev free) → seen capacity items next ≡ now → (s : Slot) (r : Holds now.pairs s) → IsAround capacity items next prev s r.0 r.1 r.2
    standing h e s r = stands h e s r.0 r.1 r.2 r.3

    -- a slot goes out
    pub taken_out : (h : IsLinked capacity items next prev free) → seen capacity items next ≡ now → (s : Slot) (before : List (Slot × T)) (x : T) (after : List (Slot × T)) → now.pairs ≡ before ++ (s, x) ∷ after → (here there : ℕ) → here ≡ get_or prev s.index here → there ≡ get_or next s.index there
        → Layout capacity items (set (set next here there) s.index free) (set prev there here) s.index (before ++ after) (s.index ∷ h.spare)
    taken_out h e s before x after is here there eh et =
        let a = stands h e s before x after is in
        let h' : here ≡ last_index capacity before = get_or_read prev s.index here a.in_prev eh 0 ∙ a.here in
        let t' : there ≡ first_index after capacity = get_or_read next s.index there a.in_next et 0 ∙ a.there in
        rw (h', t') (removed capacity items next prev free s x before after h.spare (laid h e _ is))

    -- an item is set
    pub set_at : (h : IsLinked capacity items next prev free) → seen capacity items next ≡ now → (s : Slot) (before : List (Slot × T)) (x : T) (after : List (Slot × T)) → now.pairs ≡ before ++ (s, x) ∷ after → (y : T)
        → Layout capacity (set items s.index (Some y)) next prev free (before ++ (s, y) ∷ after) h.spare
    set_at h e s before x after is y = item_set capacity items next prev free s x y before after h.spare (laid h e _ is)

    -- what is behind a slot, or in front of all
    pub behind_of : (h : IsLinked capacity items next prev free) → seen capacity items next ≡ now → (at : Option Slot) (before after : List (Slot × T)) → now.pairs ≡ before ++ after → last_slot before ≡ at → (here : ℕ) → here ≡ node_of capacity at → (here ≡ last_index capacity before) × (here < length next) × (get_or next here 0 ≡ first_index after capacity) × (first_index after capacity < length prev)
    behind_of h e at before after is last here eh =
        let l = laid h e _ is in
        let w : here ≡ last_index capacity before = eh ∙ (ap (node_of capacity) (sym last) ∙ last_index-slot capacity None before) in
        let b = Links-behind items next prev capacity before after capacity l.circle in
        (w, rw w (omega (arith, l.next_length, (here_within capacity items next prev free before after h.spare l).0)), ap (λ i. get_or next i 0) w ∙ b, omega (arith, l.prev_length, there_within capacity items next prev free before after h.spare l))

    -- a pair comes in
    pub put_in : (h : IsLinked capacity items next prev free) → seen capacity items next ≡ now → free ≢ capacity → (at : Option Slot) (before after : List (Slot × T)) → now.pairs ≡ before ++ after → last_slot before ≡ at → (x : T) (here there later : ℕ) → here ≡ node_of capacity at → there ≡ get_or next here there → later ≡ get_or next free later
        → (fs : List ℕ) × Layout capacity (set items free (Some x)) (set (set next free there) here free) (set (set prev free here) there free) later (before ++ (record { index = free }, x) ∷ after) fs
    put_in h e ne at before after is last x here there later eh et en =
        let b = behind_of h e at before after is last here eh in
        let t : there ≡ first_index after capacity = get_or_read next here there b.1 et 0 ∙ b.2 in
        let n : later ≡ get_or next free 0 = get_or_read next free later (free_within capacity items next prev free h ne).1 en 0 in
        let l = laid h e _ is in
        let s = not_full capacity items next prev free _ h.spare l ne in
        let P : List ℕ → Type 0 = λ fs. Layout capacity items next prev free (before ++ after) fs in
        (s.0, rw (b.0, t, n) (inserted capacity items next prev free x before after s.0 (subst P s.1 l)))

    pub first_now : (h : IsLinked capacity items next prev free) → seen capacity items next ≡ now → (node : ℕ) → node ≡ get_or next capacity node → slot_of capacity node ≡ first_slot now.pairs
    first_now h e node read =
        let l = laid h e _ refl in
        ap (slot_of capacity) (get_or_read next capacity node (omega (arith, l.next_length)) read 0 ∙ Links-behind items next prev capacity [] now.pairs capacity l.circle)
        ∙ slot_of-first capacity now.pairs (none_at_end l)
