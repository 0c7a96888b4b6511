-- What the lines of sessions in a report say, and what is seen of the sessions. Its top is
-- `SummarySaysSeen`: by it, what other laws say of a model's session is said of what is seen of it.
use Rattle.std.specs.Prelude.{◌≡◌, List}
use Rattle.std.specs.List.{AllZip}
use Rattle.book_base.specs.declared.end.End.{End}
use Rattle.book_link.specs.declared.event.Event.{Event}
use Rattle.book_link.specs.Runs.{run}
use Rattle.book_link.specs.Worlds.{Setup, Session, side}
use Rattle.law_seen.specs.Seen.{Seen, seen}

-- the line of a session says what is seen of it: its `isn`, how many bytes are `given` and
-- `delivered`, and whether it is at its `end` or `open`; these are the model's bytes (own)
pub record SaysSeen (one : Seen) (s : Session) : Type 0 where
  pub isn : s.state.isn ≡ one.isn
  pub given : s.state.given ≡ one.gave
  pub delivered : s.state.taken ≡ one.got
  pub end : s.end_shown ≡ one.end_told

-- so say the lines of all sessions, each in its place (own)
abbrev pub SummarySaysSeen : Setup → List Event → Type 0
SummarySaysSeen setup events =
    (e : End) → AllZip SaysSeen (seen setup events e) (side (run setup events) e).sessions
