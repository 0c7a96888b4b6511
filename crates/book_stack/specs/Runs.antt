-- The run of a stack: a fold over its calls (own).
use Rattle.std.specs.Prelude.{◌≡◌, ℕ, Bool, true, false, List, [], ◌∷◌, ◌++◌}
use Rattle.book_keys.specs.Rows.{Row}
use Rattle.book_cmd_node.specs.declared.node.NodeEvent.{NodeEvent}
use Rattle.book_cmd_node.specs.NodeRuns.{NodeOutcome, most_ends, node_from, node_outcomes_from}
use Rattle.book_stack.specs.Calls.{CallAnswer, Call, Add, Withdraw, call}
use Rattle.book_stack.specs.Stacks.{StackState, empty_stack}

-- the stack after these calls (own)
abbrev pub stack_after : StackState → List Call → StackState
stack_after s [] = s
stack_after s (c ∷ cs) = stack_after (call c s).stack cs

-- the answers to these calls (own)
abbrev pub answers_from : StackState → List Call → List CallAnswer
answers_from s [] = []
answers_from s (c ∷ cs) = let d = call c s in d.answer ∷ answers_from d.stack cs

-- the plain events of a node that these calls make (own)
abbrev pub expanded_from : StackState → List Call → List NodeEvent
expanded_from s [] = []
expanded_from s (c ∷ cs) = let d = call c s in d.events ++ expanded_from d.stack cs

-- the answers to these events, as the calls take them (own)
abbrev pub told_from : StackState → List Call → List NodeOutcome
told_from s [] = []
told_from s (c ∷ cs) = let d = call c s in d.outcomes ++ told_from d.stack cs

-- no row is added, and none withdrawn (own)
abbrev pub keeps_rows : List Call → Bool
keeps_rows [] = true
keeps_rows (Add row ∷ cs) = false
keeps_rows (Withdraw n ∷ cs) = false
keeps_rows (c ∷ cs) = keeps_rows cs

-- the plain events that a run of a new stack makes (own)
abbrev pub expanded : List Row → ℕ → List Call → List NodeEvent
expanded rows most calls = expanded_from (empty_stack rows most) calls

-- the stack's ends and the answers to its plain events are those of the node's run of these events
-- (own)
pub record IsNodeRun (s : StackState) (calls : List Call) : Type 0 where
  pub ends : (stack_after s calls).node ≡ node_from most_ends s.rows s.node (expanded_from s calls)
  pub answers :
      told_from s calls ≡ node_outcomes_from most_ends s.rows s.node (expanded_from s calls)
