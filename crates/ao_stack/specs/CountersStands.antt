-- Which stacks and counters of the definitions a stack that counts stands for (own).
use Rattle.std.specs.Prelude.{◌≡◌, is_some}
use Rattle.book_base.specs.declared.address.Pair.{Pair}
use Rattle.book_cmd_node.specs.NodeRuns.{held_end}
use Rattle.book_stack.specs.Counters.{StackCounts}
use Rattle.book_stack.specs.Stacks.{StackState}
use Rattle.ao_stack.specs.Stands as below
use Rattle.ao_stack.specs.declared.counted_stack.CountedStack.{CountedStack}
use Rattle.ao_stack.specs.Tallies.{tally_at}

-- the stack stands for the state, and its counters are these; each pair that is held has a tally, and
-- no other (own)
pub record Stands (k : CountedStack) (s : StackState) (n : StackCounts) : Type 0 where
  pub stack : below.Stands k.stack s
  pub node : k.node ≡ n.node
  pub pairs : (pair : Pair) → tally_at k.tallies pair ≡ n.pairs pair
  pub held : (pair : Pair) → is_some (n.pairs pair) ≡ is_some (held_end pair s.node.ends)
