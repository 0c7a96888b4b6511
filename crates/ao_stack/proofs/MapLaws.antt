-- What the calls of the map of tallies do to it.
use Rattle.std.proofs.Common.{◌≡◌, Bool, true, false, List, Option, Some, None, refl, sym, ap, subst, ◌∙◌}
use Rattle.std.specs.Prelude.{cond, is_some, option_map, if◌then◌else◌}
use Rattle.std.specs.BTreeMap.{is_at}
use Rattle.std.specs.Map.{lookup, set_value}
use Rattle.book_base.specs.declared.address.Pair.{Pair}
use Rattle.book_base.specs.Orders.{by_pair}
use Rattle.book_cmd_node.specs.NodeRuns.{same_pair}
use Rattle.book_stack.specs.declared.tally.Tally.{Tally}
use Rattle.law_node.proofs.PairMaps.{pair_finds, set_finds}
use Rattle.law_node.proofs.Pairs.{same_pair_is}
use Rattle.ao_stack.specs.Tallies.{Becomes, Tallying, tally_at}

-- tallies with these entries
abbrev pub of_entries : List (Pair × Tally) → Tallying
of_entries es = record { entries = es }

module _ (es after : List (Pair × Tally)) (p : Pair) (n : Tallying) (view : of_entries es ≡ n) where
  -- what is found by the order is the pair's
  pub found_at : (o : Option Tally) → o ≡ lookup (is_at (by_pair p)) es → o ≡ tally_at n p
  found_at o is = rw (is, ← view) refl

  -- a tally was put
  pub put_becomes : (w : Tally) → ((q : Pair) → lookup (is_at (by_pair q)) after ≡ cond (is_at (by_pair p) q) (Some w) (lookup (is_at (by_pair q)) es)) → Becomes n (of_entries after) p (Some w)
  put_becomes w finds =
      rw (← view) (record { finds = λ q. finds q ∙ rw (pair_finds p q) refl })

  -- the tally of a pair was dropped
  pub drop_becomes : ((q : Pair) → lookup (is_at (by_pair q)) after ≡ cond (is_at (by_pair p) q) None (lookup (is_at (by_pair q)) es)) → Becomes n (of_entries after) p None
  drop_becomes finds =
      rw (← view) (record { finds = λ q. finds q ∙ rw (pair_finds p q) refl })

  -- that of a pair that has one was written
  pub set_becomes : (one other : Tally) → Some one ≡ lookup (is_at (by_pair p)) es → after ≡ set_value (is_at (by_pair p)) es other → Becomes n (of_entries after) p (Some other)
  set_becomes one other is set =
      let there : is_some (lookup (is_at (by_pair p)) es) ≡ true = ap is_some (sym is) in
      rw (← view, set) (record { finds = λ q. set_finds p q other es there })

  -- that of a pair that has one was changed
  pub some_changed : (one new : Tally) (f : Tally → Tally) → new ≡ f one → Some one ≡ lookup (is_at (by_pair p)) es → after ≡ set_value (is_at (by_pair p)) es new → Becomes n (of_entries after) p (option_map f (tally_at n p))
  some_changed one new f made is set =
      let known : Some new ≡ option_map f (tally_at n p) = ap Some made ∙ ap (λ (o : Option Tally). option_map f o) (found_at (Some one) is) in
      subst (λ (x : Option Tally). Becomes n (of_entries after) p x) known (set_becomes one new is set)

-- the pair has none, and nothing changed
pub none_becomes : (n : Tallying) (p : Pair) → tally_at n p ≡ None → Becomes n n p None
none_becomes n p none = record { finds = λ q. at q (same_pair p q) refl }
  where
    at : (q : Pair) (b : Bool) → same_pair p q ≡ b → tally_at n q ≡ (if b then None else tally_at n q)
    at q true e = subst (λ (x : Pair). tally_at n x ≡ None) (same_pair_is p q e) none
    at q false e = refl

-- the pair becomes what it is known to be
pub as_known : (before after : Tallying) (p : Pair) (k l : Option Tally) → k ≡ l → Becomes before after p k → Becomes before after p l
as_known before after p k l e B = subst (λ (x : Option Tally). Becomes before after p x) e B

-- it has none, and so nothing changed
pub none_changed : (before after : Tallying) (p : Pair) (f : Tally → Tally) → None ≡ tally_at before p → after ≡ before → Becomes before after p (option_map f (tally_at before p))
none_changed before after p f none same =
    subst (λ (x : Tallying). Becomes before x p (option_map f (tally_at before p))) (sym same)
    (as_known before before p None (option_map f (tally_at before p)) (ap (λ (o : Option Tally). option_map f o) none) (none_becomes before p (sym none)))
