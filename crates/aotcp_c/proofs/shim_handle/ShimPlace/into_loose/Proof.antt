-- A pointer with a box becomes that box, taken apart.
use Rattle.std.proofs.Common.{◌≡◌, List, [], ◌∷◌, ◌++◌, refl, sym, ap, ◌∙◌, subst}
use mir.Val.{Val, vptr}
use mir.Raw.{raw as bare}
use base.Logic.{SProp, ent, emp, id⊢, never, fst∗}
use types.Logic.{sem}
use prog.Wp.{WpFn}
use types.Kit.{‵, raw, ◌⊛◌, ◌$◌, ◌∵◌, !, qed, by, move, keep, split, fjoin, fsplit, suffices, use0, rewrite}
use types.Run.{stop, fld, of_opd, no_more, and_then, returns, enter}
use types.ByLocal.{alloc_all, pass_all, free_all, look_at, get, get_in, sets}
use types.Part.{agg, sub, whole}
use contract.Monad.{fact, fact_i}
use contract.Running.{tables}
use denote.Memory.{lone}
use denote.RattleType.{owns}
use denote.Signature.{types_at, plain}
use denote.RawPtr.{Ptr, block_ptr, null_ptr, in_a_block}
use denote.Steps.{nothing, heard}
use denote.Triple.Entry.{alive}
use denote.Triple.Walked.{Stays, stay_dropped, Goes-dropped, walk_of}
use Rattle.std.proofs.alloc.Calls.{Goes-blank, handle_tells}
use Rattle.std.proofs.raw_atomic.Walks.{proved_at, leaves}
use Rattle.std.specs.Box.Ownership.{box_owns}
use Rattle.std.specs.Prelude.{is_some, true}
use Rattle.std.specs.declared.option.Option.TheVariants.{Some}
use Rattle.std.specs.contracts.alloc.Global.{the_row as global}
use Rattle.std.proofs.alloc.Global.TheLaws.{the_row_laws as global_laws}
use Rattle.std.specs.contracts.impls.GlobalAllocator.TheImpl.{ghosts}
use Rattle.aotcp_c.proofs.Values.{al, both, loose_good, loose_in}
use Rattle.shim_pairs.specs.contracts.shim.Shim.{the_row as store}
use Rattle.aotcp_c.specs.Held.{held_shim, content}
use Rattle.aotcp_c.specs.contracts.shim_handle.ShimPlace.{the_row as place}
use Rattle.aotcp_c.proofs.ShimPlaces.{word, place_out, known}
use Rattle.aotcp_c.specs.contracts.shim_handle.ShimPlace.into_loose.{ended, clauses}
use Rattle.aotcp_c.specs.contracts.shim_handle.ShimPlace.into_loose.Key.{name as #self}
use Rattle.aotcp_c.proofs.shim_handle.ShimPlace.into_loose.Statement.{statement}
use Rattle.aotcp_c.proofs.shim_handle.ShimPlace.into_loose.Code as code

pub into_loose_spec : {M : Type 1} → statement M
into_loose_spec 𝓤 𝓛 𝓜 𝓡 wired =
    let H = 𝓛.H in let 𝓣 = tables 𝓤 H 𝓜 𝓡 𝓡.env in let c = clauses 𝓛 𝓜.mem 𝓡.returns in let fn = code.function in
    let hs : Stays ended.signature.params ended.kept = (stay_dropped (plain (λ _. place)) ended.kept.0, (stay_dropped (plain (λ _. global)) ended.kept.1.0, tt)) in
    proved_at 𝓛 ended hs c 𝓜 𝓡 (Goes-blank 𝓛 0 (plain (λ _. place)) ended.kept.0 (λ κs x f. tt), (Goes-dropped 𝓛 0 (plain (λ _. global)) ended.kept.1.0 (λ κs x f. refl), tt)) #self fn (code.unfolded 𝓤 H 𝓜 𝓡 wired) (λ z are.
    let κs = z.0.0 in let d = z.0.3.0 in let a = z.0.3.1.0 in let us = z.0.4.0 in let vs = z.0.4.1.0 in
    let Post : Val → SProp 𝓤 = (walk_of 𝓛 ended hs c).post z in let Run : List Val → SProp 𝓤 = λ ws. WpFn 𝓤 H 𝓣.C 𝓣.Λ fn ws Post in
    qed 𝓛 ((raw (alive 𝓛 ended.signature z.0.0 z.0.1) ⊛ ‵ (owns (types_at ended.signature.params κs) z.0.3 z.0.4)) ∷ raw (fact 𝓤 (is_some (content d.value) ≡ true)) ∷ []) ∵
    split ! $ move ! (2 ∷ []) $ heard ! (is_some (content d.value) ≡ true) (λ some. move ! (1 ∷ []) $ fsplit ! $
    place_out ! d us (λ eu. let k = known d.value some in let s = k.0 in
    rewrite ! 0 (λ x. ‵ (held_shim d.at x)) k.1 refl $
    in_a_block ! d.at (λ (p : Ptr). box_owns (ghosts.dealloc_token s.1) store p s.0) (fst∗ 𝓤 (never 𝓤) (sem 𝓛 (ghosts.dealloc_token s.1 (bare (lone store.mir)) null_ptr))) (λ b o e.
    move ! (1 ∷ []) $ fsplit ! $ handle_tells (al store global global_laws ghosts) ! a vs (λ h ev fits.
    -- [the allocator; nothing; the box; the tokens]
    let w : Val = word (block_ptr b o) in
    let ew : us ≡ w ∷ [] = eu ∙ ap (λ (p : Ptr). word p ∷ []) e in
    let both_are : us ++ (vs ++ []) ≡ w ∷ h ∷ [] = λ i. ew i ++ (ev i ++ []) in
    suffices ! (Run (w ∷ h ∷ [])) (subst (λ (ws : List Val). ent 𝓤 (Run (w ∷ h ∷ [])) (Run ws)) (sym both_are) (id⊢ 𝓤 (Run (w ∷ h ∷ [])))) $
    enter ! 𝓣.C 𝓣.Λ fn (w ∷ h ∷ []) Post $ alloc_all ! (λ l. pass_all ! refl ((tt, (tt, tt)), (fits, tt)) $
    sets ! (of_opd ! (get_in ! (fld ! refl (stop !)) (sub ! 0 refl (whole !)))) refl (tt, tt) $
    sets ! (of_opd ! (get ! refl)) refl (tt, tt) $
    sets ! (agg ! (and_then ! (get ! refl) (and_then ! (get ! refl) (no_more !)))) refl (loose_good store global global_laws ghosts b o h fits) $
    move ! (2 ∷ 0 ∷ []) $ loose_in store global global_laws ghosts ! b o h a s.0 $
    returns ! (look_at ! 0 refl) $ free_all ! refl $
    use0 𝓛 (raw (fact 𝓤 (content d.value ≡ Some s.0))) (fact_i 𝓤 (content d.value ≡ Some s.0) (emp 𝓤) (ap content k.1)) $
    nothing ! $ nothing ! $ fjoin ! $ nothing ! $ fjoin ! $ keep ! (4 ∷ 0 ∷ 2 ∷ 1 ∷ []) $
    by ! (leaves 𝓛 ended hs c z (both (vptr b o) h) (record { at = block_ptr b o; alloc = a; value = s.0 }) (tt, (tt, tt)) (tt, (tt, tt)))))))))
