-- Which slots are in the list.
use Rattle.std.proofs.Common.{◌≡◌, List, [], ◌∷◌, ◌++◌, Option, None, Some, refl, sym, ◌∙◌, ap, subst, append_assoc}
use Rattle.std.proofs.lemmas.Option.{none-some, same_Some}
use Rattle.std.specs.Option.{ForSome, IfSome}
use Rattle.stream_buffers.specs.declared.slot.Slot.{Slot}
use Rattle.stream_buffers.specs.Pool.{Holds, first_slot, last_slot, last_slot_or}

module _ {T : Type 0} where
  -- the list can be parted behind this slot, or in front of all where there is none
  abbrev pub Parts : List (Slot × T) → Option Slot → Type 0
  Parts ps s = (before : List (Slot × T)) × (after : List (Slot × T)) × (ps ≡ before ++ after) × (last_slot before ≡ s)

  -- the pair of the first slot
  pub starts : (ps : List (Slot × T)) (s : Slot) → first_slot ps ≡ Some s → (x : T) × (rest : List (Slot × T)) × (ps ≡ (s, x) ∷ rest)
  starts [] s e = absurd (none-some s e)
  starts (p ∷ ps) s e = (p.1, ps, ap (λ t. (t, p.1) ∷ ps) (same_Some _ _ e))

  pub no_start : (ps : List (Slot × T)) → first_slot ps ≡ None → ps ≡ []
  no_start [] e = refl
  no_start (p ∷ ps) e = absurd (none-some p.0 (sym e))

  pub last_slot-push : (n : Option Slot) (ps : List (Slot × T)) (s : Slot) (x : T) → last_slot_or n (ps ++ (s, x) ∷ []) ≡ Some s
  last_slot-push n [] s x = refl
  last_slot-push n (p ∷ ps) s x = last_slot-push (Some p.0) ps s x

  pub parts_of : (ps : List (Slot × T)) (at : Option Slot) → ForSome at (λ s. Holds ps s) → Parts ps at
  parts_of ps None h = ([], ps, refl, refl)
  parts_of ps (Some s) h =
      let r = h s refl in
      (r.0 ++ (s, r.1) ∷ [], r.2, r.3 ∙ sym (append_assoc r.0 ((s, r.1) ∷ []) r.2), last_slot-push None r.0 s r.1)

  held_first : (before ps : List (Slot × T)) → IfSome (first_slot ps) (λ s. Holds (before ++ ps) s)
  held_first before [] = tt
  held_first before (p ∷ ps) = (before, p.1, ps, refl)

  pub first_held : (ps before after : List (Slot × T)) (r : Option Slot) → ps ≡ before ++ after → r ≡ first_slot after → IfSome r (λ s. Holds ps s)
  first_held ps before after r e f =
      let P : List (Slot × T) → Type 0 = λ qs. IfSome r (λ s. Holds qs s) in
      let Q : Option Slot → Type 0 = λ o. IfSome o (λ s. Holds (before ++ after) s) in
      subst P (sym e) (subst Q (sym f) (held_first before after))

  held_last : (n : Option Slot) (front before after : List (Slot × T)) → IfSome n (λ s. Holds (front ++ (before ++ after)) s) → IfSome (last_slot_or n before) (λ s. Holds (front ++ (before ++ after)) s)
  held_last n front [] after h = h
  held_last n front (p ∷ ps) after h =
      let e = append_assoc front (p ∷ []) (ps ++ after) in
      let P : List (Slot × T) → Type 0 = λ qs. IfSome (last_slot_or (Some p.0) ps) (λ s. Holds qs s) in
      subst P e (held_last (Some p.0) (front ++ p ∷ []) ps after (front, p.1, ps ++ after, e))

  pub last_held : (ps before after : List (Slot × T)) (r : Option Slot) → ps ≡ before ++ after → r ≡ last_slot before → IfSome r (λ s. Holds ps s)
  last_held ps before after r e f =
      let P : List (Slot × T) → Type 0 = λ qs. IfSome r (λ s. Holds qs s) in
      let Q : Option Slot → Type 0 = λ o. IfSome o (λ s. Holds (before ++ after) s) in
      subst P (sym e) (subst Q (sym f) (held_last None [] before after tt))
