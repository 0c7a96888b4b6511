-- What two readers and an output are of a run so far.
use Rattle.std.specs.Prelude.{◌≡◌, ℕ, ◌+◌, Bool, true, false, List, [], ◌++◌}
use Rattle.book_base.specs.declared.end.End.{End}
use Rattle.book_bgp.specs.Messages.{fault_in}
use Rattle.book_link.specs.declared.event.Event.{Event}
use Rattle.book_link.specs.declared.event.Event.TheVariants as event
use Rattle.book_link.specs.declared.event.Action.TheVariants as action
use Rattle.book_link.specs.Runs.{empty, run}
use Rattle.book_link.specs.Worlds.{Setup}
use Rattle.book_cmd_link.specs.BgpRuns.{bgp_faults, bgp_lines_from, is_faulty, taken_lines}
use Rattle.both_ends.specs.declared.values.BothEnds.{BothEnds}
use Rattle.both_ends.specs.Values.{at}
use Rattle.bgp_messages.specs.Readers.{Reading, StandsFor, new_reading}
use Rattle.link_report.specs.declared.outcome.Outcome.{Outcome}
use Rattle.link_report.specs.declared.outcome.Outcome.TheVariants as outcome
use Rattle.cmd_link.specs.declared.bgp_runs.Turn.{Turn}
use Rattle.cmd_link.specs.declared.bgp_runs.Turn.TheVariants as turn
use Rattle.cmd_link.specs.declared.lines.Place.{Place}
use Rattle.cmd_link.specs.Places.{place_of}
use Rattle.cmd_link.specs.Streams.{streams, newest}

-- the bytes that a take gave
abbrev pub taken_in : Outcome → List ℕ
taken_in (outcome.Took piece shown) = piece
taken_in _ = []

-- an event was done
abbrev pub is_done : Outcome → Bool
is_done outcome.Done = true
is_done _ = false

-- what an event may bring the reader of an end
abbrev pub turn_of : Event → Turn
turn_of (event.At e (action.Connect isn)) = turn.Begins e
turn_of (event.At e (action.Listen isn)) = turn.Begins e
turn_of (event.At e (action.Start isn peer)) = turn.Begins e
turn_of (event.At e (action.Take count)) = turn.Takes e
turn_of _ = turn.Neither

-- a reader, made new where a session began
abbrev pub renewed : Bool → Reading → Reading
renewed true r = new_reading
renewed false r = r

-- the reader got a piece after these bytes, and the lines and faults are written and counted
pub record IsHeard (p : Place) (bytes piece before after : List ℕ) (reader : Reading) (old new : ℕ) : Type 0 where
  pub stands : StandsFor reader (bytes ++ piece)
  pub text : after ≡ before ++ taken_lines (place_of p) bytes (bytes ++ piece)
  pub faults : new + is_faulty (fault_in bytes) ≡ old + is_faulty (fault_in (bytes ++ piece))

-- the readers stand for what the live sessions delivered, the text is that of the messages, and the faults are counted
pub record Follows (setup : Setup) (events : List Event) (readers : BothEnds Reading) (text : List ℕ) (faults : ℕ) : Type 0 where
  pub stands : (e : End) → StandsFor (at e readers) (newest (streams (run setup events) e))
  pub text_is : text ≡ bgp_lines_from setup 1 (empty setup) events
  pub faults_are : faults ≡ bgp_faults (run setup events)
