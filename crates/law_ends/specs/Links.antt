-- The events of a link that stand for calls at two stacks. Our own. Its top is `link_events`.
use Rattle.std.specs.Prelude.{◌≡◌, ℕ, Bool, true, false, not, ◌&&◌, List, [], ◌∷◌, ◌++◌, Option, Some, None, if◌then◌else◌}
use Rattle.book_base.specs.declared.address.Pair.{Pair}
use Rattle.book_base.specs.declared.end.End.{End}
use Rattle.book_keys.specs.Tables.{AddedAs}
use Rattle.book_endpoint.specs.States.{EndState}
use Rattle.book_link.specs.declared.event.Event.{Event}
use Rattle.book_link.specs.declared.event.Event.TheVariants.{At as AtEnd}
use Rattle.book_link.specs.declared.event.Action.TheVariants as action
use Rattle.book_link.specs.Worlds.{Setup, pair_of, Session, World, side, live}
use Rattle.book_cmd_node.specs.declared.node.Act.{Act}
use Rattle.book_cmd_node.specs.declared.node.Act.TheVariants as act
use Rattle.book_cmd_node.specs.declared.node.NodeEvent.{NodeEvent}
use Rattle.book_cmd_node.specs.declared.node.NodeEvent.TheVariants as event
use Rattle.book_cmd_node.specs.NodeRuns.{NodeOutcome, InUse, NodeFull, NoConnection, NoRoom, ConnectionClosing, held_end}
use Rattle.book_stack.specs.Calls.{Call, Add, Withdraw, CallAnswer, Adds, Withdraws, Did, call}
use Rattle.law_node.specs.Alone.{is_mine}
use Rattle.law_ends.specs.Doings.{Doing, Twins, stack_of, after_doing, new_twins}
use Rattle.law_ends.specs.Users.{UserSession, AreTold}

-- the answer is a refusal: nothing was done (own)
abbrev pub is_refusal : NodeOutcome → Bool
is_refusal InUse = true
is_refusal NodeFull = true
is_refusal NoConnection = true
is_refusal NoRoom = true
is_refusal ConnectionClosing = true
is_refusal _ = false

-- the link's event for an act on its pair: the action of the same name; a pair that is removed is none of the link's
-- affairs, whose session stays until the next one begins (own)
abbrev pub act_events : End → Act → List Event
act_events e (act.Open isn) = AtEnd e (action.Connect isn) ∷ []
act_events e (act.Listen isn) = AtEnd e (action.Listen isn) ∷ []
act_events e (act.Start isn peer) = AtEnd e (action.Start isn peer) ∷ []
act_events e (act.Give piece) = AtEnd e (action.Give piece) ∷ []
act_events e (act.Take count) = AtEnd e (action.Take count) ∷ []
act_events e act.Send = AtEnd e action.Send ∷ []
act_events e act.Resend = AtEnd e action.Resend ∷ []
act_events e act.Close = AtEnd e action.Close ∷ []
act_events e act.Abort = AtEnd e action.Abort ∷ []
act_events e act.Remove = []

-- the link's event for a plain event of a stack: bytes that come are injected, whatever way they came (own)
abbrev pub plain_events : End → NodeEvent → List Event
plain_events e (event.Clock seconds) = AtEnd e (action.Clock seconds) ∷ []
plain_events e (event.Inject bytes) = AtEnd e (action.Inject bytes) ∷ []
plain_events e (event.On pair a) = act_events e a

-- the same by its answer: none for an event of another connection, nor for one that was refused (own)
abbrev pub answered_events : Pair → End → NodeEvent → NodeOutcome → List Event
answered_events pair e event o = if is_mine pair event && not (is_refusal o) then plain_events e event else []

-- the link's events for plain events and their answers (own)
abbrev pub events_by : Pair → End → List NodeEvent → List NodeOutcome → List Event
events_by pair e (event ∷ events) (o ∷ os) = answered_events pair e event o ++ events_by pair e events os
events_by pair e _ _ = []

-- the link's event for a row that was added or withdrawn (own)
abbrev pub row_events : End → Call → CallAnswer → List Event
row_events e (Add row) (Adds (AddedAs n rows)) = AtEnd e (action.AddRow row) ∷ []
row_events e (Withdraw n) Withdraws = AtEnd e (action.Withdraw n) ∷ []
row_events e _ _ = []

-- the link's events for what a call did (own)
abbrev pub did_events : Pair → End → Call → Did → List Event
did_events pair e c d = events_by pair e d.events d.outcomes ++ row_events e c d.answer

-- the link's events for a call at an end (own)
abbrev pub doing_events : Setup → Twins → Doing → List Event
doing_events setup t d = did_events (pair_of setup d.end) d.end d.what (call d.what (stack_of t d.end))

-- the link's events for calls that begin at these stacks (own)
abbrev pub link_events_from : Setup → Twins → List Doing → List Event
link_events_from setup t [] = []
link_events_from setup t (d ∷ doings) = doing_events setup t d ++ link_events_from setup (after_doing t d) doings

-- the events of a link that stand for these calls at two stacks that begin empty (own)
abbrev pub link_events : Setup → (End → ℕ) → List Doing → List Event
link_events setup most doings = link_events_from setup (new_twins setup most) doings

-- where a stack holds an end, the live session of the link's end is that (own)
abbrev pub IsLive : Option EndState → Option Session → Type 0
IsLive None live = Unit {0}
IsLive (Some u) live = (s : Session) × (live ≡ Some s) × (s.state ≡ u)

-- an end of a link mirrors the stack that stands there: its rows and its clock are the stack's; where the stack holds the
-- link's pair, that end is the live session; and each session was given, and gave, what its user was told (own)
pub record MirrorsAt (setup : Setup) (w : World) (t : Twins) (us : List UserSession) (e : End) : Type 0 where
  pub rows : (side w e).rows ≡ (stack_of t e).rows
  pub clock : (side w e).clock ≡ (stack_of t e).node.clock
  pub held : IsLive (held_end (pair_of setup e) (stack_of t e).node.ends) (live (side w e).sessions)
  pub told : AreTold (side w e).sessions us

-- a link mirrors two stacks at both ends (own)
abbrev pub Mirrors : Setup → World → Twins → (End → List UserSession) → Type 0
Mirrors setup w t us = (e : End) → MirrorsAt setup w t (us e) e
