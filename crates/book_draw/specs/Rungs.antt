-- What is drawn of a run: a rung for each event, and one for each change of phase. Our own format.
-- Its top is `rungs`.
use Rattle.std.specs.Prelude.{ℕ, ◌==◌, Bool, true, false, List, [], ◌∷◌, ◌++◌, length}
use Rattle.std.specs.Prelude.{Option, Some, None, if◌then◌else◌}
use Rattle.book_base.specs.declared.end.End.{End}
use Rattle.book_base.specs.declared.end.End.TheVariants.{A, B}
use Rattle.book_endpoint.specs.declared.phase.Phase.{Phase}
use Rattle.book_endpoint.specs.declared.phase.Phase.TheVariants as phase
use Rattle.book_link.specs.declared.event.Event.{Event}
use Rattle.book_link.specs.declared.event.Action.{Action}
use Rattle.book_link.specs.declared.event.Event.TheVariants as event
use Rattle.book_link.specs.declared.event.Action.TheVariants as action
use Rattle.book_link.specs.declared.event.Transmission.{Transmission}
use Rattle.book_link.specs.declared.event.Transmission.TheVariants.{New, Again}
use Rattle.book_link.specs.Outcomes as outcome
use Rattle.book_link.specs.Runs.{empty}
use Rattle.book_link.specs.Steps.{step}
use Rattle.book_link.specs.Worlds.{Setup, Session, Made, World, live, side}
use Rattle.book_draw.specs.declared.rung.Sketch.{Sketch}
use Rattle.book_draw.specs.declared.rung.Brought.{Brought}
use Rattle.book_draw.specs.declared.rung.Brought.TheVariants as brought
use Rattle.book_draw.specs.declared.rung.Deed.{Deed}
use Rattle.book_draw.specs.declared.rung.Deed.TheVariants as deed
use Rattle.book_draw.specs.declared.rung.Reply.{Reply}
use Rattle.book_draw.specs.declared.rung.Reply.TheVariants as reply
use Rattle.book_draw.specs.declared.rung.Rung.{Rung}
use Rattle.book_draw.specs.declared.rung.Rung.TheVariants.{Clock, Made as MadeRung, Came, Call}
use Rattle.book_draw.specs.declared.rung.Rung.TheVariants.{Turned}

-- what is drawn of a segment that was made (own)
abbrev pub sketch_of : Made → Sketch
sketch_of m = record {
  name = m.name;
  flags = m.emission.flags;
  number = m.emission.number;
  ack = m.emission.acknowledged;
  length = length m.emission.segment.payload;
  key_id = m.emission.sending.key_id;
  rnext_key_id = m.emission.sending.rnext_key_id;
}

-- what came of a call; a segment that is made or shown, or that comes, is no reply (own)
abbrev pub reply_of : outcome.Outcome → Reply
reply_of outcome.Done = reply.Done
reply_of (outcome.Sent made) = reply.Done
reply_of (outcome.Answered answer) = reply.Done
reply_of (outcome.Took bytes shown) = reply.Took (length bytes) shown
reply_of (outcome.Image bytes) = reply.Done
reply_of (outcome.Added number) = reply.Added number
reply_of outcome.IsnUsed = reply.IsnUsed
reply_of outcome.NoSession = reply.NoSession
reply_of outcome.NoSegment = reply.NoSegment
reply_of outcome.NoPlace = reply.NoPlace
reply_of outcome.Full = reply.Full
reply_of outcome.HasClosed = reply.Closed
reply_of outcome.WithoutKey = reply.NoKey
reply_of outcome.Idle = reply.Idle
reply_of outcome.Nothing = reply.Nothing
reply_of outcome.TooManyRows = reply.TooManyRows
reply_of (outcome.OverlapWith number) = reply.Overlap number
reply_of outcome.NoRow = reply.NoRow

-- the rung of a call that makes a segment, or none (own)
abbrev pub making_rung : End → Deed → Transmission → outcome.Outcome → Rung
making_rung e d transmission (outcome.Sent made) = MadeRung e (sketch_of made) transmission
making_rung e d transmission o = Call e d (reply_of o)

-- the rung of an arrival, where there is one (own)
abbrev pub coming_rung : End → Deed → Brought → outcome.Outcome → Rung
coming_rung e d what (outcome.Answered answer) = Came e what answer
coming_rung e d what o = Call e d (reply_of o)

-- the rung of an action at an end with this outcome (own)
abbrev pub rung_at : End → Action → outcome.Outcome → Rung
rung_at e (action.Clock seconds) o = Clock e seconds
rung_at e (action.Connect isn) o = Call e deed.Connect (reply_of o)
rung_at e (action.Listen isn) o = Call e deed.Listen (reply_of o)
rung_at e (action.Start isn peer) o = Call e deed.Start (reply_of o)
rung_at e (action.Give piece) o = Call e (deed.Give (length piece)) (reply_of o)
rung_at e (action.Fill count byte) o = Call e (deed.Give count) (reply_of o)
rung_at e action.Send o = making_rung e deed.Send New o
rung_at e action.Resend o = making_rung e deed.Resend Again o
rung_at e (action.Deliver n) o = coming_rung e (deed.Deliver n) (brought.Segment n) o
rung_at e (action.Inject bytes) o = coming_rung e deed.Inject brought.Injected o
rung_at e (action.Alter n place mask fixing) o = coming_rung e (deed.Alter n) (brought.Altered n) o
rung_at e (action.Take count) o = Call e deed.Take (reply_of o)
rung_at e action.Close o = Call e deed.Close (reply_of o)
rung_at e action.Abort o = Call e deed.Abort (reply_of o)
rung_at e (action.AddRow row) o = Call e deed.Add (reply_of o)
rung_at e (action.Withdraw number) o = Call e (deed.Withdraw number) (reply_of o)

-- the rung of an event with this outcome; to show a segment is none (own)
abbrev pub rung_of : Event → outcome.Outcome → Option Rung
rung_of (event.At e what) o = Some (rung_at e what o)
rung_of (event.Dump n) o = None

-- the place of a phase among the eleven (RFC 9293, section 3.3.2)
abbrev pub phase_place : Phase → ℕ
phase_place phase.Listen = 0
phase_place phase.SynSent = 1
phase_place phase.SynReceived = 2
phase_place phase.Established = 3
phase_place phase.FinWait1 = 4
phase_place phase.FinWait2 = 5
phase_place phase.CloseWait = 6
phase_place phase.Closing = 7
phase_place phase.LastAck = 8
phase_place phase.TimeWait = 9
phase_place phase.Closed = 10

-- two phases are the same (own)
abbrev pub same_phase : (one other : Phase) → Bool
same_phase one other = phase_place one == phase_place other

-- the phase of a session, if there is one (own)
abbrev pub phase_in : Option Session → Option Phase
phase_in None = None
phase_in (Some s) = Some s.state.phase

-- the phase of an end's live session, if it has one (own)
abbrev pub phase_at : World → End → Option Phase
phase_at w e = phase_in (live (side w e).sessions)

-- the rung of a phase that wasn't the one before (own)
abbrev pub turned_from : End → Option Phase → Phase → Option Rung
turned_from e None now = Some (Turned e now)
turned_from e (Some before) now = if same_phase before now then None else Some (Turned e now)

-- the rung of an end's phases before an event and after it (own)
abbrev pub turned : End → (before after : Option Phase) → Option Rung
turned e before None = None
turned e before (Some now) = turned_from e before now

-- a rung, if there is one, in front of rungs (own)
abbrev pub ahead : Option Rung → List Rung → List Rung
ahead None rs = rs
ahead (Some r) rs = r ∷ rs

-- the rungs of an event in this world: what happened, and then the phases that it changed (own)
abbrev pub rungs_at : Setup → World → Event → List Rung
rungs_at setup w e =
    let s = step setup w e in
    ahead (rung_of e s.outcome)
    (ahead (turned A (phase_at w A) (phase_at s.world A))
    (ahead (turned B (phase_at w B) (phase_at s.world B)) []))

-- the rungs of events that begin in this world (own)
abbrev pub rungs_from : Setup → World → List Event → List Rung
rungs_from setup w [] = []
rungs_from setup w (e ∷ events) =
    rungs_at setup w e ++ rungs_from setup (step setup w e).world events

-- the rungs of a run (own)
unfoldable pub rungs : Setup → List Event → List Rung
rungs setup events = rungs_from setup (empty setup) events
