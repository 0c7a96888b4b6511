-- A call of an end that is held.
use Rattle.std.specs.Prelude.{ℕ, List}
use Rattle.book_base.specs.declared.address.Pair.{Pair}
use Rattle.book_keys.specs.Rows.{Row}
use Rattle.book_endpoint.specs.States.{EndState}
use Rattle.book_cmd_node.specs.declared.node.Act.{Act}
use Rattle.book_cmd_node.specs.NodeRuns as book
use Rattle.tcp_endpoint.specs.declared.endpoint.Endpoint.{Endpoint}
use Rattle.tcp_endpoint.specs.declared.emission.Emission.{Emission}
use Rattle.tcp_endpoint.specs.declared.emission.Emission.TheVariants as emissions
use Rattle.tcp_endpoint.specs.declared.emission.Resent.{Resent}
use Rattle.tcp_endpoint.specs.declared.emission.Resent.TheVariants as resents
use Rattle.tcp_endpoint.specs.declared.send.GiveAnswer.{GiveAnswer}
use Rattle.tcp_endpoint.specs.declared.send.GiveAnswer.TheVariants as given
use Rattle.tcp_endpoint.specs.Ends.{Stands}
use Rattle.stack_ends.specs.EndsCalls.{act_on}
use Rattle.cmd_node.specs.declared.told.Told.{Told}
use Rattle.cmd_node.specs.declared.told.Told.TheVariants as tells
use Rattle.cmd_node.specs.Told.{Tells}

-- the answer where a piece was given, or wasn't
abbrev pub told_given : GiveAnswer → Told
told_given given.Ok = tells.Done
told_given given.Full = tells.Full
told_given given.Closed = tells.Closed

-- the answer where a segment was made, or wasn't
abbrev pub told_made : Emission → Told
told_made (emissions.Segment m) = tells.Sent m
told_made emissions.NoKey = tells.NoKey
told_made emissions.Idle = tells.Idle

-- the same of a segment that is made again
abbrev pub told_again : Resent → Told
told_again (resents.Segment m) = tells.Sent m
told_again resents.NoKey = tells.NoKey
told_again resents.Nothing = tells.Nothing

-- the end stands for the state after a call, and it is told what that answers
pub record Follows (e : Endpoint) (room : List ℕ) (told : Told) (c : book.Called) : Type 0 where
  pub stands : Stands e c.state
  pub tells : Tells room told c.outcome

-- the end stands for what the call makes of its state
abbrev pub HasActed : List Row → Pair → ℕ → EndState → Act → Endpoint → List ℕ → Told → Type 0
HasActed rows pair now s a e room told = Follows e room told (act_on rows pair now s a)
