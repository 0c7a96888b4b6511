-- What the turns of a stack hand out, and what is told of it (own).
use Rattle.std.specs.Prelude.{◌≡◌, ℕ, List, [], ◌∷◌, length, take, Option, Some, None, ⊤}
use Rattle.book_base.specs.declared.address.Pair.{Pair}
use Rattle.book_segments.specs.Segments.{spell}
use Rattle.book_endpoint.specs.Emissions.{Emission}
use Rattle.book_cmd_node.specs.declared.node.Act.{Act}
use Rattle.book_cmd_node.specs.declared.node.Act.TheVariants as act
use Rattle.book_cmd_node.specs.declared.node.NodeEvent.{NodeEvent}
use Rattle.book_cmd_node.specs.declared.node.NodeEvent.TheVariants as event
use Rattle.book_stack.specs.Stacks.{StackState, handed}
use Rattle.book_stack.specs.Turns.{Turn, ask, wake}
use Rattle.ao_stack.specs.declared.outgoing.Outgoing.{Outgoing}
use Rattle.book_link.specs.declared.event.Transmission.{Transmission}
use Rattle.book_link.specs.declared.event.Transmission.TheVariants as transmission
use Rattle.ao_stack.specs.declared.stack.Stack.{Stack}
use Rattle.ao_stack.specs.Stands.{Stands}

-- the length of a datagram that is handed out (own)
abbrev pub length_of : Option Outgoing → Option ℕ
length_of None = None
length_of (Some o) = Some o.length

-- the act at an end by which its segment is made: for the first time, or again (own)
abbrev pub act_of : Transmission → Act
act_of transmission.New = act.Send
act_of transmission.Again = act.Resend

-- a turn at which a segment is sent for the first time, or again: an end is asked, or an alarm goes
-- off (own)
abbrev pub turn_of : Transmission → ℕ → StackState → Turn
turn_of transmission.New = ask
turn_of transmission.Again = wake

-- how many such turns there are at most (own)
abbrev pub turn_limit : Transmission → StackState → ℕ
turn_limit transmission.New s = length s.line
turn_limit transmission.Again s = length s.alarms

-- the last of some plain events (own)
abbrev pub last_event : List NodeEvent → Option NodeEvent
last_event [] = None
last_event (e ∷ []) = Some e
last_event (e ∷ f ∷ es) = last_event (f ∷ es)

-- the datagram that is handed out was made at the last of these events: its connection was asked for
-- its next segment, or to send again (own)
abbrev pub MadeLast : Option Outgoing → List NodeEvent → Type 0
MadeLast None es = ⊤
MadeLast (Some o) es = last_event es ≡ Some (event.On o.pair (act_of o.kind))

-- the segment that a turn hands out, of this length, stands in front of the buffer; or it hands out
-- none (own)
abbrev pub HandsAs : List ℕ → Option Outgoing → Option Emission → Type 0
HandsAs room (Some o) (Some x) =
    (take o.length room ≡ spell (handed x.segment)) × (o.length ≡ length (spell (handed x.segment)))
HandsAs room None None = ⊤
HandsAs room _ _ = ⊥

-- where none is handed out, the buffer is as before (own)
abbrev pub Stays : (before after : List ℕ) → Option Outgoing → Type 0
Stays before after None = after ≡ before
Stays before after (Some o) = ⊤

-- what is told of a datagram is that this connection sends it so (own)
abbrev pub IsBy : Pair → Transmission → Option Outgoing → Type 0
IsBy pair kind None = ⊤
IsBy pair kind (Some o) = (o.pair ≡ pair) × (o.kind ≡ kind)

-- the connection made the segment, and it is as it is handed out (own)
pub record Makes (pair : Pair) (kind : Transmission) (before after : List ℕ) (out : Option Outgoing) (x : Option Emission) : Type 0 where
  pub hands : HandsAs after out x
  pub by : IsBy pair kind out
  pub stays : Stays before after out

-- the stack stands for what a turn leaves, and hands out what that hands out (own)
pub record Turns (k : Stack) (before after : List ℕ) (out : Option Outgoing) (t : Turn) : Type 0 where
  pub stands : Stands k t.stack
  pub hands : HandsAs after out t.hands
  pub last : MadeLast out t.events
  pub stays : Stays before after out
