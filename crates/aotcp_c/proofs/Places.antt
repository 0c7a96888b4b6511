-- The machine value of a `Place`. Assumes `Logic`.
use Rattle.std.proofs.Common.{◌≡◌, List, [], ◌∷◌, refl}
use seplogic.Ra.Ura.{Ura}
use mir.Val.{Val, vstruct, vcons, vnil, of_list}
use types.Logic.{Logic}
use types.Kit.{Item, Goal, Seq, Step, step, ‵, ◌$◌, drop, fsplit, fjoin, fpick, fpack, feq_i, feq_l}
use denote.RattleType.{Valss}
use denote.Builtin.{RawPtr}
use denote.RawPtr.{Ptr, ptr_val}
use denote.Steps.{nothing}
use denote.Struct.Struct.{within}
use denote.Struct.Owning.{shape}
use Rattle.std.specs.declared.option.Option.{Option}
use Rattle.std.specs.declared.alloc.Global.{Global}
use Rattle.std.specs.declared.option.Option.TheVariants.{None, Some}
use Rattle.std.specs.Prelude.{is_some, true}
use Rattle.std.proofs.lemmas.Bool.{false≢true}
use Rattle.aotcp_c.specs.Held.{held_stack, content}
use Rattle.aotcp_c.specs.contracts.handle.Place.{the_row, the_type}
use Rattle.ao_stack.specs.contracts.counted_stack.CountedStack.{the_row as store}

abbrev pub word : Ptr → Val
word p = vstruct (vcons (ptr_val p) vnil)

module _ {M : Type 1} {𝓤 : Ura M} {𝓛 : Logic 𝓤} {K : Type 0} {Γ : List (Item 𝓤)} {G : Goal 𝓤 𝓛.H} where
  pub place_out : K → (d : the_row.Denot) (vs : List Val)
      → (vs ≡ word d.at ∷ [] → Seq K 𝓛 (‵ (held_stack d.at d.value) ∷ Γ) G)
      → Seq K 𝓛 (‵ (the_row.own_val d vs) ∷ Γ) G
  place_out t d vs k =
      fsplit t $ fpick t (λ vss. fsplit t $ feq_l t (λ ev. fsplit t $ feq_l t (λ ep. drop t $ k
      (mathlib.Core.Path.subst (λ (ps : List Val). vs ≡ vstruct (of_list (mathlib.Core.List.◌++◌ ps [])) ∷ []) ep ev))))

  pub place_in : K → (p : Ptr) (x : Option (store.Denot × Global))
      → Step K 𝓛 (‵ (the_row.own_val (record { at = p; value = x }) (word p ∷ [])) ∷ Γ) G (‵ (held_stack p x) ∷ Γ) G
  place_in t p x = step (λ s.
      nothing t $ feq_i t (List Val) (ptr_val p ∷ []) (ptr_val p ∷ []) refl $ fjoin t $ feq_i t (List Val) (word p ∷ []) (word p ∷ []) refl $ fjoin t $
      fpack t (Valss (RawPtr ∷ [])) (within (shape the_type) (p, tt) (word p ∷ [])) (ptr_val p ∷ [], tt) $ fjoin t $ s)

pub known : {X : Type 0} (x : Option (X × Global)) → is_some (content x) ≡ true → (s : X × Global) × (x ≡ Some s)
known (Some s) e = (s, refl)
known None e = absurd (false≢true e)
