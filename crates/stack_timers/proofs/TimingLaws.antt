-- What the calls of the timers do to their map.
use Rattle.std.proofs.Common.{◌≡◌, List, Some, None, refl, ◌∙◌}
use Rattle.std.specs.Prelude.{cond}
use Rattle.std.specs.BTreeMap.{is_at}
use Rattle.std.specs.Map.{lookup}
use Rattle.book_base.specs.declared.address.Pair.{Pair}
use Rattle.book_base.specs.Orders.{by_pair}
use Rattle.book_stack.specs.Watches.{new_connection_watch}
use Rattle.law_node.proofs.PairMaps.{pair_finds}
use Rattle.stack_timers.specs.declared.watch.Watch.{Watch}
use Rattle.stack_timers.specs.Timers.{Timing, KeepsNew, Drops}
use Rattle.stack_timers.specs.Watches.{seen}

-- timers with these entries
abbrev pub of_entries : List (Pair × Watch) → Timing
of_entries es = record { entries = es }

module _ (es after : List (Pair × Watch)) (p : Pair) (n : Timing) (view : of_entries es ≡ n) where
  -- a new timer was put
  pub put_keeps : (w : Watch) → seen w ≡ new_connection_watch → ((q : Pair) → lookup (is_at (by_pair q)) after ≡ cond (is_at (by_pair p) q) (Some w) (lookup (is_at (by_pair q)) es)) → KeepsNew n (of_entries after) p
  put_keeps w is finds =
      rw (← view) (record { watch = w; is_new = is; finds = λ q. finds q ∙ rw (pair_finds p q) refl })

  -- the timer of a pair was dropped
  pub drop_drops : ((q : Pair) → lookup (is_at (by_pair q)) after ≡ cond (is_at (by_pair p) q) None (lookup (is_at (by_pair q)) es)) → Drops n (of_entries after) p
  drop_drops finds =
      rw (← view) (record { finds = λ q. finds q ∙ rw (pair_finds p q) refl })
