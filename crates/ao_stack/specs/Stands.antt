-- Which stacks of the definitions a stack stands for (own).
use Rattle.std.specs.Prelude.{◌≡◌, ◌≤◌, true, Option, Some, None, is_some}
use Rattle.book_base.specs.declared.address.Pair.{Pair}
use Rattle.book_cmd_node.specs.NodeRuns.{held_end, most_ends}
use Rattle.book_stack.specs.Stacks.{StackState}
use Rattle.book_stack.specs.Watches as book
use Rattle.book_base.specs.Addresses.{IsOneFamily}
use Rattle.stack_ends.specs.Stands.{most_of}
use Rattle.stack_ends.specs.Stands as below
use Rattle.stack_timers.specs.declared.watch.Watch.{Watch}
use Rattle.stack_timers.specs.Timers.{Drops, watch_at}
use Rattle.stack_timers.specs.Watches.{seen}
use Rattle.ao_stack.specs.declared.stack.Stack.{Stack}

-- what is kept of the timer of a connection stands for it: a new one where nothing is (own)
abbrev pub WatchIs : Option Watch → book.ConnectionWatch → Type 0
WatchIs None w = w ≡ book.new_connection_watch
WatchIs (Some x) w = seen x ≡ w

-- the stack stands for the state: its ends for the node, its lists and timers are the state's, with a
-- place for each end in both lists and a timer for each end; each pair is of one family (own)
pub record Stands (k : Stack) (s : StackState) : Type 0 where
  pub ends : below.Stands k.ends s.rows s.node
  pub most : most_of k.ends ≡ s.most
  pub few : s.most ≤ most_ends
  pub alarms : k.alarms.alarms ≡ s.alarms
  pub alarms_most : k.alarms.most ≡ s.most
  pub line : k.line.pairs ≡ s.line
  pub line_most : k.line.most ≡ s.most
  pub watches : (pair : Pair) → WatchIs (watch_at k.watches pair) (s.watches pair)
  pub kept : (pair : Pair) → is_some (watch_at k.watches pair) ≡ is_some (held_end pair s.node.ends)
  pub family : (pair : Pair) → is_some (held_end pair s.node.ends) ≡ true
      → IsOneFamily pair.local.address pair.remote.address

-- the timer of a pair was dropped, and all else is as before (own)
pub record TakesBack (before after : Stack) (pair : Pair) : Type 0 where
  pub ends : after.ends ≡ before.ends
  pub watches : Drops before.watches after.watches pair
  pub alarms : after.alarms ≡ before.alarms
  pub line : after.line ≡ before.line
