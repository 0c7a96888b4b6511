-- The end of a pair is called (own).
use Rattle.std.specs.Prelude.{◌≡◌, ℕ, List, ◌++◌, length, drop, Option, Some, None, ⊤}
use Rattle.book_base.specs.declared.address.Pair.{Pair}
use Rattle.book_keys.specs.Rows.{Row}
use Rattle.book_endpoint.specs.States.{EndState}
use Rattle.book_cmd_node.specs.declared.node.Act.{Act}
use Rattle.book_cmd_node.specs.NodeRuns as runs
use Rattle.tcp_endpoint.specs.declared.send.GiveAnswer.{GiveAnswer}
use Rattle.tcp_endpoint.specs.declared.send.GiveAnswer.TheVariants as given
use Rattle.book_stack.specs.Turns.{change_by}
use Rattle.book_stack.specs.Watches.{awaits}
use Rattle.stack_ends.specs.EndsCalls.{act_on}
use Rattle.stack_ends.specs.declared.calls.Taken.{Taken}
use Rattle.stack_ends.specs.declared.ends.Ends.{Ends}
use Rattle.stack_ends.specs.declared.send.Spoken.{Spoken}
use Rattle.stack_ends.specs.Said.{SaysAs}
use Rattle.stack_ends.specs.Stands.{Stands}

-- what is asked of the end of a pair, at a node under rows (own)
pub record Asking : Type 0 where
  pub rows : List Row
  pub node : runs.NodeState
  pub pair : Pair
  pub answers : List Row → Pair → ℕ → EndState → runs.Called

-- what is asked by a call (own)
abbrev pub acting : Act → List Row → Pair → ℕ → EndState → runs.Called
acting a rows pair now s = act_on rows pair now s a

-- what the end in this state answers (own)
abbrev pub answer_to : Asking → EndState → runs.Called
answer_to q s = q.answers q.rows q.pair q.node.clock s

-- the node after it (own)
abbrev pub node_after : Asking → EndState → runs.NodeState
node_after q s = (runs.after_call q.node q.pair (answer_to q s)).node

-- the end is called where the pair is held, and answers so; else nothing changes (own)
abbrev pub CallsAt : {A : Type 0} → Ends → Asking → Option A → (A → EndState → runs.Called → Type 0) → Option EndState → Type 0
CallsAt k q (Some a) does (Some s) = does a s (answer_to q s) × Stands k q.rows (node_after q s)
CallsAt k q None does None = Stands k q.rows q.node
CallsAt k q _ does _ = ⊥

-- whether a piece was taken, as a node answers (own)
abbrev pub given_as : GiveAnswer → runs.NodeOutcome
given_as given.Ok = runs.Performed
given_as given.Full = runs.NoRoom
given_as given.Closed = runs.ConnectionClosing

-- a piece was given (own)
abbrev pub Gives : GiveAnswer → EndState → runs.Called → Type 0
Gives answer s c = c.outcome ≡ given_as answer

-- the bytes that were taken stand in front of the buffer, and it is told whether they were the last (own)
pub record Takes (before after : List ℕ) (taken : Taken) (s : EndState) (c : runs.Called) : Type 0 where
  pub bytes : List ℕ
  pub outcome : c.outcome ≡ runs.Delivered bytes taken.at_end
  pub count : taken.count ≡ length bytes
  pub filled : after ≡ bytes ++ drop taken.count before

-- it was done (own)
abbrev pub IsDone : ⊤ → EndState → runs.Called → Type 0
IsDone done s c = c.outcome ≡ runs.Performed

-- what is told of an end that was asked for a segment (own)
pub record Tells (room : List ℕ) (spoken : Spoken) (s : EndState) (c : runs.Called) : Type 0 where
  pub says_as : SaysAs room spoken.says c.outcome
  pub change : spoken.change ≡ change_by s c
  pub waits : spoken.waits ≡ awaits c.state
