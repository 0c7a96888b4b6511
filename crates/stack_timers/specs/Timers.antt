-- The timers of all connections (own).
use Rattle.std.specs.Prelude.{◌≡◌, List, Option, Some, None, if◌then◌else◌}
use Rattle.std.specs.Map.{lookup}
use Rattle.std.specs.BTreeMap.{is_at}
use Rattle.book_base.specs.declared.address.Pair.{Pair}
use Rattle.book_base.specs.Orders.{by_pair}
use Rattle.book_cmd_node.specs.NodeRuns.{same_pair}
use Rattle.stack_timers.specs.declared.watch.Watch.{Watch}
use Rattle.stack_timers.specs.Watches.{seen}
use Rattle.book_stack.specs.Watches.{new_connection_watch}

-- timers by their pairs (own)
pub record Timing : Type 0 where
  pub entries : List (Pair × Watch)

-- the timer of a pair (own)
abbrev pub watch_at : Timing → Pair → Option Watch
watch_at t pair = lookup (is_at (by_pair pair)) t.entries

-- the pair has a new timer from now on, and all others stay (own)
pub record KeepsNew (before after : Timing) (pair : Pair) : Type 0 where
  pub watch : Watch
  pub is_new : seen watch ≡ new_connection_watch
  pub finds : (q : Pair)
      → watch_at after q ≡ (if same_pair pair q then Some watch else watch_at before q)

-- the pair has no timer any more, and all others stay (own)
pub record Drops (before after : Timing) (pair : Pair) : Type 0 where
  pub finds : (q : Pair) → watch_at after q ≡ (if same_pair pair q then None else watch_at before q)
