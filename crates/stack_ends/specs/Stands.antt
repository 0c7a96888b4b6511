-- Which nodes of the definitions the ends of a stack stand for (own).
use Rattle.std.specs.Prelude.{◌≡◌, ◌<◌, ◌≤◌, ℕ, Bool, true, false, List, ◌++◌, [], ◌∷◌, length, Option, Some, None, Result, Ok, Err, is_some}
use Rattle.book_base.specs.declared.address.Pair.{Pair}
use Rattle.book_keys.specs.Rows.{Row}
use Rattle.book_endpoint.specs.States.{EndState}
use Rattle.book_cmd_node.specs.NodeRuns.{Held, NodeState, held_end, without_end}
use Rattle.stack_ends.specs.declared.answer.NodeRefusal.{NodeRefusal}
use Rattle.stack_ends.specs.declared.answer.NodeRefusal.TheVariants as refusals
use Rattle.stack_ends.specs.EndsStands.{HoldsAs}
use Rattle.stack_ends.specs.declared.ends.Ends.{Ends}

-- the ends stand for the node under these rows, which are their table's; no pair is held twice (own)
pub record Stands (k : Ends) (rows : List Row) (n : NodeState) : Type 0 where
  pub rows_are : k.table.rows ≡ rows
  pub clock : n.clock ≡ k.clock
  pub holds : HoldsAs rows k.node n.ends
  pub once : (pair : Pair) → held_end pair (without_end pair n.ends) ≡ None

-- how many ends there are at most (own)
abbrev pub most_of : Ends → ℕ
most_of k = k.node.most

-- the node with one end more (own)
abbrev pub with_new : NodeState → Held → NodeState
with_new n h = record n { ends = n.ends ++ h ∷ [] }

-- a new end was taken, where its pair wasn't held and there was room; or why not (own)
abbrev pub Begun : {A : Type 0} → Ends → List Row → NodeState → Held → Result A NodeRefusal → Type 0
Begun k rows n h (Ok x) =
    (held_end h.pair n.ends ≡ None) × (length n.ends < most_of k) × Stands k rows (with_new n h)
Begun k rows n h (Err refusals.InUse) = (is_some (held_end h.pair n.ends) ≡ true) × Stands k rows n
Begun k rows n h (Err refusals.Full) =
    (held_end h.pair n.ends ≡ None) × (most_of k ≤ length n.ends) × Stands k rows n
Begun k rows n h (Err refusals.Memory) = Stands k rows n

-- the end of a pair was dropped, where it was held (own)
abbrev pub Removed : Ends → List Row → NodeState → Pair → Bool → Option EndState → Type 0
Removed k rows n pair held None = (held ≡ false) × Stands k rows n
Removed k rows n pair held (Some s) =
    (held ≡ true) × Stands k rows (record n { ends = without_end pair n.ends })
