-- The scripts that a link file with waits can say. Our own format.
use Rattle.std.specs.Prelude.{◌≡◌, ◌+◌, ℕ, ◌≤◌, true, List, length, Result, Ok, All}
use Rattle.book_lines.specs.declared.line_kind.LineKind.{LineKind}
use Rattle.book_lines.specs.Lines.{most_lines}
use Rattle.book_base.specs.Results.{◌>>=◌}
use Rattle.book_cmd_link.specs.declared.timed.TimedEvent.{TimedEvent}
use Rattle.book_cmd_link.specs.declared.timed.TimedEvent.TheVariants.{Plain, Wait}
use Rattle.book_cmd_link.specs.declared.timed.TimedScript.{TimedScript}
use Rattle.book_cmd_link.specs.LinkEvents.{link_event_of}
use Rattle.book_segments.specs.Sockets.{are_two_of_a_family}
use Rattle.law_scripts.specs.Scripts.{IsEvent, IsSocket, IsWithin}

-- the plain event of a line, as one of a link with waits
abbrev pub plain_of : List (List ℕ) → Result TimedEvent LineKind
plain_of ws = do
  e ← link_event_of ws
  Ok (Plain e)

-- the numbers and lengths of an event are in their ranges, and a wait is of 1 to 3600 seconds
abbrev pub IsTimedEvent : TimedEvent → Type 0
IsTimedEvent (Plain e) = IsEvent e
IsTimedEvent (Wait e count) = IsWithin 1 3600 count

-- addresses that differ and are of one family, numbers and lengths in their ranges, and at most 20,000 lines, three of which are its head
pub record IsTimedScript (s : TimedScript) : Type 0 where
  pub a : IsSocket s.a
  pub b : IsSocket s.b
  pub two : are_two_of_a_family s.a.address s.b.address ≡ true
  pub events : All IsTimedEvent s.events
  pub lines : 3 + length s.events ≤ most_lines
