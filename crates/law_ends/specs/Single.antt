-- A connection of a stack as if it were alone, while rows are added and withdrawn (own).
use Rattle.std.specs.Prelude.{◌≡◌, ℕ, List, [], ◌∷◌, if◌then◌else◌}
use Rattle.book_base.specs.declared.address.Pair.{Pair}
use Rattle.book_keys.specs.Rows.{Row}
use Rattle.book_cmd_node.specs.NodeRuns.{no_ends}
use Rattle.book_stack.specs.Calls.{Call}
use Rattle.book_stack.specs.Runs.{expanded, told_from}
use Rattle.book_stack.specs.Stacks.{empty_stack}
use Rattle.law_node.specs.Alone.{is_mine, my_outcomes}
use Rattle.law_stack.specs.Ruled.{Ruled, ruled_from, ruled_outcomes}

-- the events of a connection, each with the rows at which it happens (own)
abbrev pub mine_ruled : Pair → List Ruled → List Ruled
mine_ruled pair [] = []
mine_ruled pair (r ∷ rs) =
    if is_mine pair r.event then r ∷ mine_ruled pair rs else mine_ruled pair rs

-- the answers to the plain events of a connection, among those to all that the calls make of a new
-- stack, are those of a node without other connections to these events by themselves, each at the
-- rows that the stack then has (own)
abbrev pub IsSingleAtItsRows : Pair → List Row → ℕ → List Call → Type 0
IsSingleAtItsRows pair rows most calls =
    my_outcomes pair (expanded rows most calls) (told_from (empty_stack rows most) calls)
    ≡ ruled_outcomes no_ends (mine_ruled pair (ruled_from (empty_stack rows most) calls))
