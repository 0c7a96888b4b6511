-- An end and the log after an event there.
use Rattle.std.specs.Prelude.{◌≡◌, ℕ, ◌≤◌, ◌+◌, List, Result, Ok, Err}
use Rattle.std.specs.declared.alloc.AllocError.{AllocError}
use Rattle.book_base.specs.declared.end.End.{End}
use Rattle.book_link.specs.declared.event.Event.{Event}
use Rattle.book_link.specs.Steps.{Stepped, come, on_live, step, view_of}
use Rattle.book_link.specs.Worlds.{Setup, World, LinkSide as EndSide, Happening, other, side as side_of}
use Rattle.both_ends.specs.declared.values.BothEnds.{BothEnds}
use Rattle.link_report.specs.declared.log.Log.{Log}
use Rattle.link_report.specs.Logs.{StandsLog, forgery_count, made_count}
use Rattle.link_report.specs.declared.outcome.Outcome.{Outcome}
use Rattle.link_report.specs.Outcomes.{Shows}
use Rattle.link_report.specs.declared.side.Side.{Side}
use Rattle.link_report.specs.Sides.{StandsSide, sockets_of}
use Rattle.link_world.specs.Links.{StandsAt, StandsLink}

-- the step of an event
abbrev pub by_event : Event → Setup → World → Stepped
by_event event setup w = step setup w event

-- the step by which bytes come to an end
abbrev pub by_bytes : End → List ℕ → Setup → World → Stepped
by_bytes e bytes setup w = on_live w e (come bytes (view_of setup w e))

-- the side and the log stand for the end and for the history after the step, the other end is as it was, and the outcome is the step's
pub record Follows (w : World) (after : Stepped) (e : End) (d : Side) (log : Log) (told : Outcome) : Type 0 where
  pub side_is : StandsSide d (side_of after.world e)
  pub others : side_of after.world (other e) ≡ side_of w (other e)
  pub log_is : StandsLog log after.world.history
  pub shows : Shows told after.outcome

-- whatever end of whatever link the side and the log stood for, they follow this step; at most one segment was made, at most one forgery counted
pub record HasStepped (e : End) (before after : Side) (old new : Log) (step : Setup → World → Stepped) (told : Outcome) : Type 0 where
  pub pair : sockets_of after ≡ sockets_of before
  pub made : made_count new ≤ made_count old + 1
  pub forged : forgery_count new ≤ forgery_count old + 1
  pub follows : (setup : Setup) (w : World) → StandsAt e before old setup w → Follows w (step setup w) e after new told

-- the side and the log stand for what they stood for
pub record Stays (before after : Side) (old new : Log) : Type 0 where
  pub pair : sockets_of after ≡ sockets_of before
  pub made : made_count new ≡ made_count old
  pub forged : forgery_count new ≡ forgery_count old
  pub side_is : (m : EndSide) → StandsSide before m → StandsSide after m
  pub log_is : (history : List Happening) → StandsLog old history → StandsLog new history

-- an event at an end was stepped through, or memory ran out and all stands for what it stood for
abbrev pub Acts : End → Side → Side → Log → Log → (Setup → World → Stepped) → Result Outcome AllocError → Type 0
Acts e before after old new step (Ok told) = HasStepped e before after old new step told
Acts e before after old new step (Err error) = Stays before after old new

-- whatever world the ends and the log stood for, they stand for the one after the step, whose outcome it is; at most one segment was made, at most one forgery counted
pub record Moves (before after : BothEnds Side) (old new : Log) (step : Setup → World → Stepped) (told : Outcome) : Type 0 where
  pub made : made_count new ≤ made_count old + 1
  pub forged : forgery_count new ≤ forgery_count old + 1
  pub stands : (setup : Setup) (w : World) → StandsLink before old setup w → StandsLink after new setup (step setup w).world
  pub shows : (setup : Setup) (w : World) → StandsLink before old setup w → Shows told (step setup w).outcome

-- the ends and the log stand for what they stood for
pub record Rests (before after : BothEnds Side) (old new : Log) : Type 0 where
  pub made : made_count new ≡ made_count old
  pub forged : forgery_count new ≡ forgery_count old
  pub stands : (setup : Setup) (w : World) → StandsLink before old setup w → StandsLink after new setup w

-- an event was stepped through, or memory ran out and all stands for what it stood for
abbrev pub Happens : BothEnds Side → BothEnds Side → Log → Log → (Setup → World → Stepped) → Result Outcome AllocError → Type 0
Happens before after old new step (Ok told) = Moves before after old new step told
Happens before after old new step (Err error) = Rests before after old new
