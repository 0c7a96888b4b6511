-- What an end says that is asked for a segment (own).
use Rattle.std.specs.Prelude.{◌≡◌, ℕ, List, Option, Some, None, ⊤, length, take}
use Rattle.book_segments.specs.Segments.{spell}
use Rattle.book_endpoint.specs.States.{EndState}
use Rattle.book_cmd_node.specs.NodeRuns as node
use Rattle.tcp_endpoint.specs.declared.emission.Emission.{Emission}
use Rattle.tcp_endpoint.specs.declared.emission.Emission.TheVariants as emissions
use Rattle.tcp_endpoint.specs.declared.emission.Resent.{Resent}
use Rattle.tcp_endpoint.specs.declared.emission.Resent.TheVariants as resents
use Rattle.tcp_endpoint.specs.declared.endpoint.Endpoint.{Endpoint}
use Rattle.tcp_endpoint.specs.Ends.{Stands}
use Rattle.book_stack.specs.Turns.{change_by}
use Rattle.book_stack.specs.Watches.{awaits}
use Rattle.stack_ends.specs.declared.send.Says.{Says}
use Rattle.stack_ends.specs.declared.send.Says.TheVariants as says
use Rattle.stack_ends.specs.declared.send.Spoken.{Spoken}

-- what is said where a segment was made, or wasn't (own)
abbrev pub said : Emission → Says
said (emissions.Segment m) = says.Segment m.length
said emissions.NoKey = says.NoKey
said emissions.Idle = says.Nothing

-- the same of a segment that is made again (own)
abbrev pub said_again : Resent → Says
said_again (resents.Segment m) = says.Segment m.length
said_again resents.NoKey = says.NoKey
said_again resents.Nothing = says.Nothing

-- what is said is that answer, and the segment, of this length, stands in front of the buffer (own)
abbrev pub SaysAs : List ℕ → Says → node.NodeOutcome → Type 0
SaysAs room (says.Segment n) (node.Transmitted x) =
    (take n room ≡ spell x.segment) × (n ≡ length (spell x.segment))
SaysAs room says.NoKey node.NoUsableKey = ⊤
SaysAs room says.Nothing node.NothingToSend = ⊤
SaysAs room says.Nothing node.NothingToResend = ⊤
SaysAs room _ _ = ⊥

-- the buffer is as before, where no segment was made (own)
abbrev pub Leaves : (before after : List ℕ) → Says → Type 0
Leaves before after (says.Segment n) = ⊤
Leaves before after says.NoKey = after ≡ before
Leaves before after says.Nothing = after ≡ before

-- the same where no end was asked (own)
abbrev pub LeavesIf : (before after : List ℕ) → Option Spoken → Type 0
LeavesIf before after None = after ≡ before
LeavesIf before after (Some spoken) = Leaves before after spoken.says

-- the end stands for the state after it was asked, and what is told of it is so (own)
pub record Speaks (f : Endpoint) (room : List ℕ) (spoken : Spoken) (s : EndState) (c : node.Called) : Type 0 where
  pub stands : Stands f c.state
  pub says_as : SaysAs room spoken.says c.outcome
  pub change : spoken.change ≡ change_by s c
  pub waits : spoken.waits ≡ awaits c.state
