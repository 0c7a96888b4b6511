-- A connection of a stack as if it were alone (own).
use Rattle.std.specs.Prelude.{◌≡◌, ℕ, List}
use Rattle.book_base.specs.declared.address.Pair.{Pair}
use Rattle.book_keys.specs.Rows.{Row}
use Rattle.book_cmd_node.specs.NodeRuns.{outcomes}
use Rattle.book_stack.specs.Calls.{Call}
use Rattle.book_stack.specs.Runs.{expanded, told_from}
use Rattle.book_stack.specs.Stacks.{empty_stack}
use Rattle.law_node.specs.Alone.{mine, my_outcomes}

-- the answers to the plain events of a connection, among those to all that the calls make of a new stack, are the answers
-- of a node without other connections to these events by themselves (own)
abbrev pub IsSingle : Pair → List Row → ℕ → List Call → Type 0
IsSingle pair rows most calls =
    my_outcomes pair (expanded rows most calls) (told_from (empty_stack rows most) calls) ≡ outcomes rows (mine pair (expanded rows most calls))
