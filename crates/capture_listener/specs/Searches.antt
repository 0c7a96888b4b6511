-- What a search over laps finds (own).
use Rattle.std.specs.Prelude.{◌≡◌, List, Option, Some, None}
use Rattle.book_base.specs.declared.address.Pair.{Pair}
use Rattle.book_cmd_check.specs.Captures.{Connection, Heard}
use Rattle.capture_check.specs.declared.answer.CheckLine.{CheckLine}
use Rattle.capture_check.specs.declared.flows.Flows.{Flows}
use Rattle.capture_check.specs.Checkers.{Hears, StandsFor}

-- the line that was found is of what is heard; where none was, nothing is heard, and the
-- connections held stay (own)
abbrev pub Finds : List (Pair × Flows) → List Connection → Option CheckLine → Option Heard → Type 0
Finds after held None heard = (heard ≡ None) × StandsFor after held
Finds after held (Some line) heard = (h : Heard) × (heard ≡ Some h) × Hears after line h
