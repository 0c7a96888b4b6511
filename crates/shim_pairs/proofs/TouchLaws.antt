-- What is found of another pair.
use Rattle.std.proofs.Common.{◌≡◌, ◌≢◌, ◌⊎◌, Bool, true, false, List, [], ◌∷◌, Option, Some, None, refl, sym, ap, subst, ◌∙◌, inl, inr}
use Rattle.std.specs.Prelude.{cond, is_some, if◌then◌else◌}
use Rattle.std.specs.BTreeMap.{is_at, insert_entry}
use Rattle.std.specs.Map.{keys_of, set_value}
use Rattle.std.specs.Ordering.{is_eq, match_ordering}
use Rattle.std.specs.declared.cmp.Ordering.{Ordering}
use Rattle.std.specs.declared.cmp.Ordering.TheVariants.{Less, Equal, Greater}
use Rattle.std.specs.Cmp.{eq_by_cmp_equiv}
use Rattle.std.proofs.lemmas.Map.{lookup-remove_entry}
use Rattle.std.proofs.lemmas.Map.Keys.{IsDistinct-from_sorted}
use Rattle.book_base.specs.declared.address.Pair.{Pair}
use Rattle.book_base.specs.contracts.address.PairOrd.TheImpl.Laws as pair_laws
use Rattle.book_base.specs.Orders.{by_pair}
use Rattle.book_base.proofs.OrderLaws.{pair_told}
use Rattle.book_cmd_node.specs.NodeRuns.{same_pair}
use Rattle.law_node.proofs.PairMaps.{set_finds}
use Rattle.law_node.proofs.Pairs.{same_pair_is}
use Rattle.shim_pairs.specs.declared.entry.Entry.{Entry}
use Rattle.shim_pairs.specs.Holdings.{Holding, found, going, of_entries, with_another, without}
use Rattle.shim_pairs.specs.Touching.{IsInOrder, IsUntouched, MakesRoom}
use Rattle.shim_pairs.proofs.PutLaws.{going_found, with_one}

pub set_other : (p q : Pair) (e : Entry) (es : List (Pair × Entry)) → is_some (found p es) ≡ true → q ≢ p → found q (set_value (is_at (by_pair p)) es e) ≡ found q es
set_other p q e es held apart = set_finds p q e es held ∙ by (same_pair p q) refl
  where
    by : (b : Bool) → same_pair p q ≡ b → (if b then Some e else found q es) ≡ found q es
    by true h = absurd (apart (sym (same_pair_is p q h)))
    by false h = refl

not_at : (p q : Pair) → q ≢ p → is_at (by_pair q) p ≡ false
not_at p q apart = by (is_at (by_pair q) p) refl
  where
    by : (b : Bool) → is_at (by_pair q) p ≡ b → b ≡ false
    by true h = absurd (apart (pair_told q p h))
    by false h = refl

insert_other : (p q : Pair) (e : Entry) (es : List (Pair × Entry)) → is_at (by_pair q) p ≡ false → found q (insert_entry by_pair es p e) ≡ found q es
insert_other p q e [] apart = rw apart refl
insert_other p q e (x ∷ es) apart = at (by_pair p x.0) refl (insert_other p q e es apart)
  where
    at : (o : Ordering) → by_pair p x.0 ≡ o → found q (insert_entry by_pair es p e) ≡ found q es
        → found q (match_ordering o ((p, e) ∷ x ∷ es) ((x.0, e) ∷ es) (x ∷ insert_entry by_pair es p e)) ≡ found q (x ∷ es)
    at Less o next = rw apart refl
    at Equal o next = let t = subst (λ (k : Pair). is_at (by_pair q) k ≡ false) (pair_told p x.0 (ap is_eq o)) apart in rw t refl
    at Greater o next = ap (cond (is_at (by_pair q) x.0) (Some x.1)) next

pub another_touches : (h : Holding) (p q : Pair) (e : Entry) → IsInOrder h → found p h.entries ≡ None → q ≢ p
    → IsUntouched h (of_entries h (with_another h.most h.entries p e)) q ⊎ MakesRoom h p q
another_touches h p q e order none apart = by (going h.most h.entries) refl
  where
    held : found q (with_another h.most h.entries p e) ≡ found q (without (going h.most h.entries) h.entries)
    held =
        ap (found q) (sym (with_one (going h.most h.entries) p e h.entries order none (going_found h.most h.entries)))
        ∙ insert_other p q e (without (going h.most h.entries) h.entries) (not_at p q apart)

    gone : (v : Pair × Entry) → going h.most h.entries ≡ Some v → (b : Bool) → is_at (by_pair v.0) q ≡ b → found q (with_another h.most h.entries p e) ≡ cond b None (found q h.entries)
        → IsUntouched h (of_entries h (with_another h.most h.entries p e)) q ⊎ MakesRoom h p q
    gone v g true t f = inr (record { gone = v; goes = g; is = pair_told v.0 q t; comes = none })
    gone v g false t f = inl f

    by : (o : Option (Pair × Entry)) → going h.most h.entries ≡ o → IsUntouched h (of_entries h (with_another h.most h.entries p e)) q ⊎ MakesRoom h p q
    by None g = inl (held ∙ ap (λ (o : Option (Pair × Entry)). found q (without o h.entries)) g)
    by (Some v) g =
        gone v g (is_at (by_pair v.0) q) refl
        (held ∙ ap (λ (o : Option (Pair × Entry)). found q (without o h.entries)) g
        ∙ lookup-remove_entry (eq_by_cmp_equiv pair_laws.total-law) (is_at (by_pair v.0)) (λ x y t. ap (λ (k : Pair). is_at (by_pair k) y) (pair_told v.0 x t)) q h.entries (IsDistinct-from_sorted by_pair (keys_of h.entries) order))
