-- A side after an event at its end by which a segment may be made, or bytes come.
use Rattle.std.specs.Prelude.{◌≡◌, ℕ, suc, List, ◌∷◌, Option, Some, None}
use Rattle.book_base.specs.declared.address.Pair.{Pair}
use Rattle.book_base.specs.declared.end.End.{End}
use Rattle.book_segments.specs.Segments.{reading, spell}
use Rattle.book_keys.specs.Rows.{Row}
use Rattle.book_endpoint.specs.Emissions.{Emission as BookEmission, Emitted, Emits, emit, resend}
use Rattle.book_endpoint.specs.States.{EndState}
use Rattle.book_link.specs.declared.event.Action.{Action}
use Rattle.book_link.specs.declared.event.Action.TheVariants.{Send, Resend}
use Rattle.book_link.specs.declared.event.Transmission.{Transmission}
use Rattle.book_link.specs.declared.event.Transmission.TheVariants.{New, Again}
use Rattle.book_link.specs.Outcomes.{Outcome, Sent, Answered, NoSession, Idle, Nothing, WithoutKey}
use Rattle.book_link.specs.Steps.{Stepped}
use Rattle.book_link.specs.Worlds.{Made as BookMade, Came, Happening, Making, Coming, World, segments, other, side as side_of}
use Rattle.link_report.specs.declared.side.Side.{Side}
use Rattle.link_report.specs.Sides.{StandsSide}
use Rattle.tcp_endpoint.specs.Arrivals.{TellsPassed, passed_of}
use Rattle.tcp_endpoint.specs.declared.arrival.Arrived.{Arrived}
use Rattle.tcp_endpoint.specs.declared.emission.Emission.{Emission}
use Rattle.tcp_endpoint.specs.declared.emission.Emission.TheVariants as emissions
use Rattle.tcp_endpoint.specs.declared.emission.Made.{Made}
use Rattle.tcp_endpoint.specs.declared.emission.Resent.{Resent}
use Rattle.tcp_endpoint.specs.declared.emission.Resent.TheVariants as resents
use Rattle.tcp_endpoint.specs.Emissions.{IsMade}

-- the action by which an end sends for the first time, or again
abbrev pub sending : Transmission → Action
sending New = Send
sending Again = Resend

-- what an end makes then
abbrev pub made_by : Transmission → List Row → Pair → ℕ → EndState → Emitted
made_by New rows pair now s = emit rows pair now s
made_by Again rows pair now s = resend rows pair now s

-- the outcome where nothing is to be sent
abbrev pub quiet : Transmission → Outcome
quiet New = Idle
quiet Again = Nothing

-- the answer of a resend, as that of an emit
abbrev pub emission_of : Resent → Emission
emission_of (resents.Segment m) = emissions.Segment m
emission_of resents.NoKey = emissions.NoKey
emission_of resents.Nothing = emissions.Idle

-- how many bytes of the buffer a segment takes
abbrev pub length_sent : Option Emission → ℕ
length_sent (Some (emissions.Segment m)) = m.length
length_sent _ = 0

-- a segment was made at an end, under this clock and table: it is the next by name, stands in front of the buffer, and all is told of it
pub record IsSent (w : World) (which : Transmission) (e : End) (d : Side) (before after : List ℕ) (m : Made) (made : BookMade) : Type 0 where
  pub name : made.name ≡ suc (segments w.history)
  pub maker : made.maker ≡ e
  pub clock : made.clock ≡ d.clock
  pub rows : made.rows ≡ d.table.rows
  pub bytes : made.bytes ≡ spell made.emission.segment
  pub told : IsMade before after m made.emission
  pub state : EndState  -- of the session that made it
  pub isn : made.isn ≡ state.isn
  pub is : made_by which d.table.rows d.pair d.clock state ≡ Emits made.emission

-- nothing was made: the buffer and the history are as they were
pub record IsQuiet (w : World) (after : Stepped) (before out : List ℕ) (outcome : Outcome) : Type 0 where
  pub outcome_is : after.outcome ≡ outcome
  pub history : after.world.history ≡ w.history
  pub buffer : out ≡ before

-- what is told is what was made, or why nothing was
abbrev pub TellsSent : World → Stepped → Transmission → End → Side → List ℕ → List ℕ → Option Emission → Type 0
TellsSent w after which e d before out None = IsQuiet w after before out NoSession
TellsSent w after which e d before out (Some emissions.Idle) = IsQuiet w after before out (quiet which)
TellsSent w after which e d before out (Some emissions.NoKey) = IsQuiet w after before out WithoutKey
TellsSent w after which e d before out (Some (emissions.Segment m)) =
    (made : BookMade) × (after.outcome ≡ Sent made) × (after.world.history ≡ Making made ∷ w.history) × IsSent w which e d before out m made

-- the side stands for the end after the step, the other end is as it was, and it is told what was made
pub record HasSent (w : World) (after : Stepped) (which : Transmission) (e : End) (d : Side) (before out : List ℕ) (told : Option Emission) : Type 0 where
  pub stands : StandsSide d (side_of after.world e)
  pub others : side_of after.world (other e) ≡ side_of w (other e)
  pub tells : TellsSent w after which e d before out told

-- bytes came to an end, under this clock and table, and all is told of the arrival
pub record IsCome (e : End) (d : Side) (bytes : List ℕ) (told : Arrived) (came : Came) : Type 0 where
  pub at : came.at ≡ e
  pub clock : came.clock ≡ d.clock
  pub bytes_are : came.bytes ≡ bytes
  pub answer : told.arrival ≡ came.answer
  pub passed : TellsPassed d.table.rows d.pair (reading bytes) (passed_of told) came.passed

-- what is told is the arrival, or that there was no session
abbrev pub TellsCome : World → Stepped → End → Side → List ℕ → Option Arrived → Type 0
TellsCome w after e d bytes None = (after.outcome ≡ NoSession) × (after.world.history ≡ w.history)
TellsCome w after e d bytes (Some told) =
    (came : Came) × (after.outcome ≡ Answered came.answer) × (after.world.history ≡ Coming came ∷ w.history) × IsCome e d bytes told came

-- the side stands for the end after the step, the other end is as it was, and it is told what came
pub record HasCome (w : World) (after : Stepped) (e : End) (d : Side) (bytes : List ℕ) (told : Option Arrived) : Type 0 where
  pub stands : StandsSide d (side_of after.world e)
  pub others : side_of after.world (other e) ≡ side_of w (other e)
  pub tells : TellsCome w after e d bytes told
