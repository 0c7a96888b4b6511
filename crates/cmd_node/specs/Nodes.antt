-- A node of the machine stands for a node of the definitions.
use Rattle.std.specs.Prelude.{◌≡◌, ℕ, ◌≤◌, List, Option, Some, None, Result, Ok, Err}
use Rattle.book_base.specs.declared.address.Pair.{Pair}
use Rattle.book_keys.specs.Lifetimes.{greatest_time}
use Rattle.book_keys.specs.Rows.{Row}
use Rattle.book_endpoint.specs.States.{EndState}
use Rattle.book_endpoint.specs.declared.arrival.Arrival.TheVariants as answers
use Rattle.book_cmd_node.specs.declared.node.Act.{Act}
use Rattle.book_cmd_node.specs.NodeRuns.{NodeState, NodeStep, NoConnection, most_ends, held_end, without_end, stays, after_call}
use Rattle.stack_ends.specs.declared.answer.NodeArrival.{NodeArrival}
use Rattle.stack_ends.specs.declared.answer.NodeArrival.TheVariants as arrivals
use Rattle.stack_ends.specs.declared.answer.NodeRefusal.{NodeRefusal}
use Rattle.stack_ends.specs.declared.answer.NodeRefusal.TheVariants as refusals
use Rattle.stack_ends.specs.Held.{Holding}
use Rattle.stack_ends.specs.EndsCalls.{act_on}
use Rattle.stack_ends.specs.EndsStands.{HoldsAs}
use Rattle.cmd_node.specs.declared.told.Told.{Told}
use Rattle.cmd_node.specs.declared.told.Told.TheVariants as tells
use Rattle.cmd_node.specs.Told.{Tells}

-- a node with its clock stands for a node of the definitions, which holds no pair twice
pub record StandsNode (rows : List Row) (h : Holding) (clock : ℕ) (n : NodeState) : Type 0 where
  pub most : h.most ≡ most_ends
  pub clock_is : n.clock ≡ clock
  pub time : clock ≤ greatest_time
  pub holds : HoldsAs rows h n.ends
  pub distinct : (pair : Pair) → held_end pair (without_end pair n.ends) ≡ None

-- the node stands for what a step makes, and it is told what that answers
pub record Reaches (rows : List Row) (h : Holding) (clock : ℕ) (room : List ℕ) (told : Told) (step : NodeStep) : Type 0 where
  pub stands : StandsNode rows h clock step.node
  pub tells : Tells room told step.outcome

-- what is told where an end was taken, or wasn't
abbrev pub IsBegun : {A : Type 0} → Result A NodeRefusal → Told → Type 0
IsBegun (Ok x) told = told ≡ tells.Done
IsBegun (Err refusals.InUse) told = told ≡ tells.InUse
IsBegun (Err refusals.Full) told = told ≡ tells.NodeFull
IsBegun (Err refusals.Memory) told = ⊥

-- the end of a pair is called, where it is held
abbrev pub called_at : List Row → NodeState → Pair → Act → Option EndState → NodeStep
called_at rows n pair a None = stays n NoConnection
called_at rows n pair a (Some s) = after_call n pair (act_on rows pair n.clock s a)

-- what is told where a datagram came
abbrev pub told_of : NodeArrival → Told
told_of (arrivals.Bad fault) = tells.Answered (answers.Bad fault)
told_of arrivals.NoConnection = tells.NoConnection
told_of (arrivals.At pair arrived) = tells.Answered arrived.arrival
