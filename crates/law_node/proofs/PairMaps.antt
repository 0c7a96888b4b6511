-- A map by pairs, in their order, finds a pair and no other.
use Rattle.std.proofs.Common.{◌≡◌, Bool, true, false, List, [], ◌∷◌, Option, Some, refl, sym, ◌∙◌}
use Rattle.std.specs.Prelude.{cond, is_some, if◌then◌else◌}
use Rattle.std.specs.BTreeMap.{is_at}
use Rattle.std.specs.Map.{lookup, set_value}
use Rattle.book_base.specs.declared.address.Pair.{Pair}
use Rattle.book_base.specs.Orders.{by_pair}
use Rattle.book_base.proofs.OrderLaws.{pair_tied, pair_told}
use Rattle.book_cmd_node.specs.NodeRuns.{same_pair}
use Rattle.law_node.proofs.Pairs.{same_pair_is, same_pair-refl}

-- the order finds a pair exactly where it is the same
pub pair_finds : (p q : Pair) → is_at (by_pair p) q ≡ same_pair p q
pair_finds p q = at (is_at (by_pair p) q) (same_pair p q) refl refl
  where
    at : (v w : Bool) → is_at (by_pair p) q ≡ v → same_pair p q ≡ w → v ≡ w
    at true true f g = refl
    at false false f g = refl
    at true false f g =
        let told : same_pair q q ≡ false = rw (pair_told p q f) at g in
        let same = same_pair-refl q in absurd (cc)
    at false true f g =
        let told : is_at (by_pair q) q ≡ false = rw (same_pair_is p q g) at f in
        let same = pair_tied q in absurd (cc)

-- what is written for a pair that has something is found for it, and all else as before
pub set_finds : {A : Type 0} (p q : Pair) (w : A) (es : List (Pair × A)) → is_some (lookup (is_at (by_pair p)) es) ≡ true
    → lookup (is_at (by_pair q)) (set_value (is_at (by_pair p)) es w) ≡ (if same_pair p q then Some w else lookup (is_at (by_pair q)) es)
set_finds p q w [] e = absurd (cc)
set_finds p q w (x ∷ es) e = at (is_at (by_pair p) x.0) (is_at (by_pair q) x.0) (same_pair p q) refl refl refl (λ f. set_finds p q w es f) e
  where
    at : (a b s : Bool) → is_at (by_pair p) x.0 ≡ a → is_at (by_pair q) x.0 ≡ b → same_pair p q ≡ s
        → (is_some (lookup (is_at (by_pair p)) es) ≡ true
        → lookup (is_at (by_pair q)) (set_value (is_at (by_pair p)) es w) ≡ (if same_pair p q then Some w else lookup (is_at (by_pair q)) es))
        → is_some (cond a (Some x.1) (lookup (is_at (by_pair p)) es)) ≡ true
        → lookup (is_at (by_pair q)) (cond a ((x.0, w) ∷ es) (x ∷ set_value (is_at (by_pair p)) es w))
        ≡ (if s then Some w else cond b (Some x.1) (lookup (is_at (by_pair q)) es))
    at true true true f g h next e = rw g refl
    at true false false f g h next e = rw g refl
    at true true false f g h next e =
        let told : same_pair q q ≡ false = rw (pair_told p x.0 f ∙ sym (pair_told q x.0 g)) at h in
        let same = same_pair-refl q in absurd (cc)
    at true false true f g h next e =
        let told : is_at (by_pair q) x.0 ≡ true = rw (← same_pair_is p q h) f in absurd (cc)
    at false true true f g h next e =
        let told : is_at (by_pair q) x.0 ≡ false = rw (← same_pair_is p q h) f in absurd (cc)
    at false true false f g h next e = rw g refl
    at false false true f g h next e = rw g (next e ∙ rw h refl)
    at false false false f g h next e = rw g (next e ∙ rw h refl)
