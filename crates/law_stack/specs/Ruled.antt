-- The run of a node whose table changes: each event with the rows at which it happens (own).
use Rattle.std.specs.Prelude.{◌≡◌, List, [], ◌∷◌, ◌++◌}
use Rattle.book_keys.specs.Rows.{Row}
use Rattle.book_cmd_node.specs.declared.node.NodeEvent.{NodeEvent}
use Rattle.book_cmd_node.specs.NodeRuns.{NodeState, NodeOutcome, most_ends, node_step}
use Rattle.book_stack.specs.Calls.{Call, call}
use Rattle.book_stack.specs.Stacks.{StackState}
use Rattle.book_stack.specs.Runs.{stack_after, told_from}

-- a plain event, and the rows of the node's table when it happens (own)
pub record Ruled : Type 0 where
  pub rows : List Row
  pub event : NodeEvent

-- events that happen at the same rows (own)
abbrev pub ruled_by : List Row → List NodeEvent → List Ruled
ruled_by rows [] = []
ruled_by rows (e ∷ es) = record { rows = rows; event = e } ∷ ruled_by rows es

-- the node after events at the rows of each (own)
abbrev pub ruled_node : NodeState → List Ruled → NodeState
ruled_node n [] = n
ruled_node n (r ∷ rs) = ruled_node (node_step most_ends r.rows n r.event).node rs

-- the answers to events at the rows of each (own)
abbrev pub ruled_outcomes : NodeState → List Ruled → List NodeOutcome
ruled_outcomes n [] = []
ruled_outcomes n (r ∷ rs) = let step = node_step most_ends r.rows n r.event in step.outcome ∷ ruled_outcomes step.node rs

-- the plain events that these calls make, each with the rows of the stack before its call (own)
abbrev pub ruled_from : StackState → List Call → List Ruled
ruled_from s [] = []
ruled_from s (c ∷ cs) = let d = call c s in ruled_by s.rows d.events ++ ruled_from d.stack cs

-- the stack's ends and the answers to its plain events are those of a node that meets these events, each at the rows that
-- the stack then has (own)
pub record IsRuledRun (s : StackState) (calls : List Call) : Type 0 where
  pub ends : (stack_after s calls).node ≡ ruled_node s.node (ruled_from s calls)
  pub answers : told_from s calls ≡ ruled_outcomes s.node (ruled_from s calls)
