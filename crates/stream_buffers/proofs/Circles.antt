-- Circles of nodes over plain lists: what a write leaves, and how a pair comes in and goes out.
use Rattle.std.proofs.Common.{◌≡◌, ◌≢◌, ℕ, zero, suc, ◌<◌, ◌≤◌, cond, List, [], ◌∷◌, ◌++◌, length, get_or, set, Option, None, Some, refl, sym, ◌∙◌, ap, arith, length-set}
use Rattle.std.proofs.lemmas.List.{get_or-set_same, get_or-set_other}
use Rattle.std.proofs.lemmas.Bool.{eq-eqb, ne_eqb}
use Rattle.stream_buffers.specs.declared.slot.Slot.{Slot}
use Rattle.stream_buffers.specs.Pool.{uses, first_slot, last_slot, last_slot_or}
use Rattle.stream_buffers.specs.Links.{Spare, Links, count_of, pair_before, walk, node_of, slot_of}
use Rattle.stream_buffers.proofs.Counts.{once_same, once_most, none_first, none_rest, uses-append, uses-first}

module _ {T : Type 0} where
  -- the node of the last pair, or else this one
  abbrev pub last_index : ℕ → List (Slot × T) → ℕ
  last_index a [] = a
  last_index a (p ∷ ps) = last_index p.0.index ps

  -- the node of the first pair, or else this one
  abbrev pub first_index : List (Slot × T) → ℕ → ℕ
  first_index [] b = b
  first_index (p ∷ ps) b = p.0.index

  -- the ends are none of the pairs, and no pair is there twice
  pub record Alone (a : ℕ) (ps : List (Slot × T)) (b : ℕ) : Type 0 where
    pub front : uses a ps ≡ 0
    pub back : uses b ps ≡ 0
    pub each : (k : ℕ) → uses k ps ≤ 1

  pub Alone-rest : (a : ℕ) (p : Slot × T) (ps : List (Slot × T)) (b : ℕ) → Alone a (p ∷ ps) b → Alone p.0.index ps b
  Alone-rest a p ps b h = record {
    front = omega (arith, h.each p.0.index, once_same p.0.index);
    back = none_rest b p.0.index _ h.back;
    each = λ k. omega (arith, h.each k);
  }

  pub uses-last : (p : Slot × T) (ps : List (Slot × T)) → 1 ≤ uses (last_index p.0.index ps) (p ∷ ps)
  uses-last p [] = uses-first p []
  uses-last p (q ∷ ps) = omega (arith, uses-last q ps)

  -- a node that isn't among the pairs is neither the last of them nor the first
  pub not_last : (k : ℕ) (p : Slot × T) (ps : List (Slot × T)) → uses k (p ∷ ps) ≡ 0 → k ≢ last_index p.0.index ps
  not_last k p ps none = λ e. let most : uses k (p ∷ ps) ≡ uses (last_index p.0.index ps) (p ∷ ps) = ap (λ i. uses i (p ∷ ps)) e in omega (arith, uses-last p ps)

  pub not_first : (k : ℕ) (ps : List (Slot × T)) (b : ℕ) → uses k ps ≡ 0 → k ≢ b → k ≢ first_index ps b
  not_first k [] b none ne = ne
  not_first k (p ∷ ps) b none ne = none_first k p.0.index _ none

  -- a write to a node that isn't among the pairs
  pub Links-next : (items : List (Option T)) (next prev : List ℕ) (i y : ℕ) (a : ℕ) (ps : List (Slot × T)) (b : ℕ) → i ≢ a → uses i ps ≡ 0 → Links items next prev a ps b → Links items (set next i y) prev a ps b
  Links-next items next prev i y a [] b ne none h = (get_or-set_other next i a y 0 (λ e. ne (sym e)) ∙ h.0, h.1)
  Links-next items next prev i y a (p ∷ ps) b ne none h =
      ((get_or-set_other next i a y 0 (λ e. ne (sym e)) ∙ h.0.0, h.0.1), h.1, Links-next items next prev i y p.0.index ps b (none_first i p.0.index _ none) (none_rest i p.0.index _ none) h.2)

  pub Links-prev : (items : List (Option T)) (next prev : List ℕ) (i y : ℕ) (a : ℕ) (ps : List (Slot × T)) (b : ℕ) → i ≢ b → uses i ps ≡ 0 → Links items next prev a ps b → Links items next (set prev i y) a ps b
  Links-prev items next prev i y a [] b ne none h = (h.0, get_or-set_other prev i b y 0 (λ e. ne (sym e)) ∙ h.1)
  Links-prev items next prev i y a (p ∷ ps) b ne none h =
      let other = none_first i p.0.index _ none in
      ((h.0.0, get_or-set_other prev i p.0.index y 0 (λ e. other (sym e)) ∙ h.0.1), h.1, Links-prev items next prev i y p.0.index ps b ne (none_rest i p.0.index _ none) h.2)

  pub Links-item : (items : List (Option T)) (next prev : List ℕ) (i : ℕ) (y : Option T) (a : ℕ) (ps : List (Slot × T)) (b : ℕ) → uses i ps ≡ 0 → Links items next prev a ps b → Links (set items i y) next prev a ps b
  Links-item items next prev i y a [] b none h = h
  Links-item items next prev i y a (p ∷ ps) b none h =
      let other = none_first i p.0.index _ none in
      (h.0, get_or-set_other items i p.0.index y None (λ e. other (sym e)) ∙ h.1, Links-item items next prev i y p.0.index ps b (none_rest i p.0.index _ none) h.2)

  -- what stands before and behind a pair, and its item
  pub Links-at : (items : List (Option T)) (next prev : List ℕ) (a : ℕ) (before : List (Slot × T)) (p : Slot × T) (after : List (Slot × T)) (b : ℕ) → Links items next prev a (before ++ p ∷ after) b → (get_or prev p.0.index 0 ≡ last_index a before) × (get_or items p.0.index None ≡ Some p.1) × (get_or next p.0.index 0 ≡ first_index after b)
  Links-at items next prev a [] p [] b h = (h.0.1, h.1, h.2.0)
  Links-at items next prev a [] p (q ∷ qs) b h = (h.0.1, h.1, h.2.0.0)
  Links-at items next prev a (r ∷ rs) p after b h = Links-at items next prev r.0.index rs p after b h.2

  -- what stands behind the last of some pairs
  pub Links-behind : (items : List (Option T)) (next prev : List ℕ) (a : ℕ) (before after : List (Slot × T)) (b : ℕ) → Links items next prev a (before ++ after) b → get_or next (last_index a before) 0 ≡ first_index after b
  Links-behind items next prev a [] [] b h = h.0
  Links-behind items next prev a [] (q ∷ qs) b h = h.0.0
  Links-behind items next prev a (r ∷ rs) after b h = Links-behind items next prev r.0.index rs after b h.2

  -- a new pair right behind a node
  Links-put : (items : List (Option T)) (next prev : List ℕ) (s : Slot) (x : T) (here : ℕ) (ps : List (Slot × T)) (b : ℕ) → s.index < length items → s.index < length next → s.index < length prev → here < length next → b < length prev → ((k : ℕ) → 1 ≤ uses k ps → k < length prev)
      → Alone here ps b → uses s.index ps ≡ 0 → s.index ≢ here → s.index ≢ b → Links items next prev here ps b
      → Links (set items s.index (Some x)) (set (set next s.index (first_index ps b)) here s.index) (set (set prev s.index here) (first_index ps b) s.index) here ((s, x) ∷ ps) b
  Links-put items next prev s x here [] b li ln lp lh lb inside alone none nh nb h =
      let same : here ≢ s.index = λ e. nh (sym e) in (
        (get_or-set_same (set next s.index b) here s.index 0 (omega (arith, length-set next s.index b)), get_or-set_other (set prev s.index here) b s.index s.index 0 nb ∙ get_or-set_same prev s.index here 0 lp),
        get_or-set_same items s.index (Some x) None li,
        (get_or-set_other (set next s.index b) here s.index s.index 0 nh ∙ get_or-set_same next s.index b 0 ln, get_or-set_same (set prev s.index here) b s.index 0 (omega (arith, length-set prev s.index here))),
      )
  Links-put items next prev s x here (q ∷ qs) b li ln lp lh lb inside alone none nh nb h =
      let i = q.0.index in
      let si : s.index ≢ i = none_first s.index i _ none in
      let rest = Alone-rest here q qs b alone in
      let kept = Links-next _ _ _ here s.index i qs b (none_first here i _ alone.front) (none_rest here i _ alone.front)
      (Links-next _ _ _ s.index i i qs b si (none_rest s.index i _ none)
      (Links-prev _ _ _ i s.index i qs b (λ e. none_first b i _ alone.back (sym e)) rest.front
      (Links-prev _ _ _ s.index here i qs b nb (none_rest s.index i _ none)
      (Links-item _ _ _ s.index (Some x) i qs b (none_rest s.index i _ none) h.2)))) in (
        (get_or-set_same (set next s.index i) here s.index 0 (omega (arith, length-set next s.index i)), get_or-set_other (set prev s.index here) i s.index s.index 0 si ∙ get_or-set_same prev s.index here 0 lp),
        get_or-set_same items s.index (Some x) None li,
        (
          (get_or-set_other (set next s.index i) here s.index s.index 0 nh ∙ get_or-set_same next s.index i 0 ln, get_or-set_same (set prev s.index here) i s.index 0 (omega (arith, length-set prev s.index here, inside i (uses-first q qs)))),
          get_or-set_other items s.index i (Some x) None (λ e. si (sym e)) ∙ h.1,
          kept,
        ),
      )

  -- a new pair behind some pairs
  pub Links-insert : (items : List (Option T)) (next prev : List ℕ) (s : Slot) (x : T) (a : ℕ) (before after : List (Slot × T)) (b : ℕ) → s.index < length items → s.index < length next → s.index < length prev → a < length next → b < length prev → ((k : ℕ) → 1 ≤ uses k (before ++ after) → k < length next) → length next ≡ length prev
      → Alone a (before ++ after) b → uses s.index (before ++ after) ≡ 0 → s.index ≢ a → s.index ≢ b → Links items next prev a (before ++ after) b
      → Links (set items s.index (Some x)) (set (set next s.index (first_index after b)) (last_index a before) s.index) (set (set prev s.index (last_index a before)) (first_index after b) s.index) a (before ++ (s, x) ∷ after) b
  Links-insert items next prev s x a [] after b li ln lp la lb inside same alone none na nb h =
      Links-put items next prev s x a after b li ln lp la lb (λ k u. omega (arith, inside k u)) alone none na nb h
  Links-insert items next prev s x a (p ∷ ps) after b li ln lp la lb inside same alone none na nb h =
      let i = p.0.index in
      let sp : s.index ≢ i = none_first s.index i _ none in
      let here = last_index i ps in
      let rest = Alone-rest a p (ps ++ after) b alone in
      let there : i ≢ first_index after b = not_first i after b (omega (arith, rest.front, uses-append i ps after)) (λ e. none_first b i _ alone.back (sym e)) in
      let ah : a ≢ here = not_last a p ps (omega (arith, alone.front, uses-append a (p ∷ ps) after)) in (
        (get_or-set_other _ here a s.index 0 ah ∙ (get_or-set_other _ s.index a _ 0 (λ e. na (sym e)) ∙ h.0.0), get_or-set_other _ (first_index after b) i s.index 0 there ∙ (get_or-set_other _ s.index i _ 0 (λ e. sp (sym e)) ∙ h.0.1)),
        get_or-set_other items s.index i (Some x) None (λ e. sp (sym e)) ∙ h.1,
        Links-insert items next prev s x i ps after b li ln lp (inside i (uses-first p (ps ++ after))) lb (λ k u. inside k (omega arith)) same rest (none_rest s.index i _ none) sp nb h.2,
      )

  -- a pair goes out
  pub Links-remove : (items : List (Option T)) (next prev : List ℕ) (a : ℕ) (before : List (Slot × T)) (p : Slot × T) (after : List (Slot × T)) (b : ℕ) → a < length next → b < length prev → ((k : ℕ) → 1 ≤ uses k (before ++ p ∷ after) → k < length next) → length next ≡ length prev
      → Alone a (before ++ p ∷ after) b → Links items next prev a (before ++ p ∷ after) b
      → Links items (set next (last_index a before) (first_index after b)) (set prev (first_index after b) (last_index a before)) a (before ++ after) b
  Links-remove items next prev a [] p [] b la lb inside same alone h =
      (get_or-set_same next a b 0 la, get_or-set_same prev b a 0 lb)
  Links-remove items next prev a [] p (q ∷ qs) b la lb inside same alone h =
      let i = q.0.index in
      let rest = Alone-rest a p (q ∷ qs) b alone in
      let tail = Alone-rest p.0.index q qs b rest in
      let none = none_rest a p.0.index _ alone.front in (
        (get_or-set_same next a i 0 la, get_or-set_same prev i a 0 (omega (arith, inside i (omega (arith, uses-first q qs))))),
        h.2.1,
        Links-next _ _ _ a i i qs b (none_first a i _ none) (none_rest a i _ none)
            (Links-prev _ _ _ i a i qs b (λ e. none_first b i _ rest.back (sym e)) tail.front h.2.2),
      )
  Links-remove items next prev a (r ∷ rs) p after b la lb inside same alone h =
      let i = r.0.index in
      let here = last_index i rs in
      let rest = Alone-rest a r (rs ++ p ∷ after) b alone in
      let there : i ≢ first_index after b = not_first i after b (omega (arith, rest.front, uses-append i rs (p ∷ after))) (λ e. none_first b i _ alone.back (sym e)) in
      let ah : a ≢ here = not_last a r rs (omega (arith, alone.front, uses-append a (r ∷ rs) (p ∷ after))) in (
        (get_or-set_other next here a _ 0 ah ∙ h.0.0, get_or-set_other prev (first_index after b) i _ 0 there ∙ h.0.1),
        h.1,
        Links-remove items next prev i rs p after b (inside i (uses-first r (rs ++ p ∷ after))) lb (λ k u. inside k (omega arith)) same rest h.2,
      )

  -- an item is set anew
  pub Links-set : (items : List (Option T)) (next prev : List ℕ) (a : ℕ) (before : List (Slot × T)) (s : Slot) (x y : T) (after : List (Slot × T)) (b : ℕ) → s.index < length items → ((k : ℕ) → uses k (before ++ (s, x) ∷ after) ≤ 1) → Links items next prev a (before ++ (s, x) ∷ after) b
      → Links (set items s.index (Some y)) next prev a (before ++ (s, y) ∷ after) b
  Links-set items next prev a [] s x y after b li each h =
      (h.0, get_or-set_same items s.index (Some y) None li, Links-item items next prev s.index (Some y) s.index after b (omega (arith, each s.index, once_same s.index)) h.2)
  Links-set items next prev a (r ∷ rs) s x y after b li each h =
      let found = uses-append s.index rs ((s, x) ∷ after) in
      let here = uses-first (s, x) after in
      let none = none_first s.index r.0.index 0 (omega (arith, each s.index, once_most s.index r.0.index)) in
      (h.0, get_or-set_other items s.index r.0.index (Some y) None (λ e. none (sym e)) ∙ h.1, Links-set items next prev r.0.index rs s x y after b li (λ k. omega (arith, each k)) h.2)

  -- the walk through a circle gives its pairs
  pub walk-circle : (items : List (Option T)) (next prev : List ℕ) (a : ℕ) (ps : List (Slot × T)) (b n : ℕ) → Links items next prev a ps b → get_or items b None ≡ None → length ps ≤ n → walk items next n (get_or next a 0) ≡ ps
  walk-circle items next prev a [] b zero h end few = refl
  walk-circle items next prev a [] b (suc n) h end few =
      ap (λ i. pair_before i (get_or items i None) (walk items next n (get_or next i 0))) h.0 ∙ ap (λ o. pair_before b o (walk items next n (get_or next b 0))) end
  walk-circle items next prev a (p ∷ ps) b zero h end few = absurd (omega arith)
  walk-circle items next prev a (p ∷ ps) b (suc n) h end few =
      ap (λ i. pair_before i (get_or items i None) (walk items next n (get_or next i 0))) h.0.0
      ∙ (ap (λ o. pair_before p.0.index o (walk items next n (get_or next p.0.index 0))) h.1
      ∙ ap (λ qs. p ∷ qs) (walk-circle items next prev p.0.index ps b n h.2 end (omega arith)))

  -- slots and nodes
  pub last_index-slot : (end : ℕ) (s : Option Slot) (ps : List (Slot × T)) → node_of end (last_slot_or s ps) ≡ last_index (node_of end s) ps
  last_index-slot end s [] = refl
  last_index-slot end s (p ∷ ps) = last_index-slot end (Some p.0) ps

  pub slot_of-first : (end : ℕ) (ps : List (Slot × T)) → uses end ps ≡ 0 → slot_of end (first_index ps end) ≡ first_slot ps
  slot_of-first end [] none = ap (λ b. cond b None (Some (record { index = end }))) (eq-eqb end end refl)
  slot_of-first end (p ∷ ps) none =
      ap (λ b. cond b None (Some p.0)) (ne_eqb p.0.index end (λ e. none_first end p.0.index _ none (sym e)))

  slot_of-last_from : (end : ℕ) (s : Slot) (ps : List (Slot × T)) → end ≢ s.index → uses end ps ≡ 0 → slot_of end (last_index s.index ps) ≡ last_slot_or (Some s) ps
  slot_of-last_from end s [] ne none = ap (λ b. cond b None (Some s)) (ne_eqb s.index end (λ e. ne (sym e)))
  slot_of-last_from end s (p ∷ ps) ne none =
      slot_of-last_from end p.0 ps (none_first end p.0.index _ none) (none_rest end p.0.index _ none)

  pub slot_of-last : (end : ℕ) (ps : List (Slot × T)) → uses end ps ≡ 0 → slot_of end (last_index end ps) ≡ last_slot ps
  slot_of-last end [] none = ap (λ b. cond b None (Some (record { index = end }))) (eq-eqb end end refl)
  slot_of-last end (p ∷ ps) none =
      slot_of-last_from end p.0 ps (none_first end p.0.index _ none) (none_rest end p.0.index _ none)

-- a write to a node that isn't among the unused
pub Spare-next : (next : List ℕ) (i y at : ℕ) (fs : List ℕ) (end : ℕ) → count_of i fs ≡ 0 → Spare next at fs end → Spare (set next i y) at fs end
Spare-next next i y at [] end none h = h
Spare-next next i y at (f ∷ fs) end none h =
    let other = none_first i f _ none in
    let same : get_or (set next i y) f 0 ≡ get_or next f 0 = get_or-set_other next i f y 0 (λ e. other (sym e)) in
    (h.0, rw same (Spare-next next i y (get_or next f 0) fs end (none_rest i f _ none) h.1))
