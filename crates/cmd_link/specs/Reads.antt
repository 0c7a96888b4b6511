-- What a piece adds to what is read of a stream.
use Rattle.std.specs.Prelude.{◌≡◌, ℕ, ◌+◌, Bool, true, false, List, ◌++◌}
use Rattle.book_bgp.specs.Messages.{fault_in}
use Rattle.bgp_messages.specs.Readers.{Reading, StandsFor}
use Rattle.book_cmd_link.specs.BgpRuns.{taken_lines, is_faulty}
use Rattle.cmd_link.specs.declared.lines.Place.{Place}
use Rattle.cmd_link.specs.Places.{place_of}

-- 1 where a fault was reached
abbrev pub count_of : Bool → ℕ
count_of true = 1
count_of false = 0

-- the reader got a piece after these bytes, its lines are written, and it is told whether a fault was reached
pub record IsRead (p : Place) (bytes piece before after : List ℕ) (reader : Reading) (reached : Bool) : Type 0 where
  pub stands : StandsFor reader (bytes ++ piece)
  pub text : after ≡ before ++ taken_lines (place_of p) bytes (bytes ++ piece)
  pub faults : is_faulty (fault_in (bytes ++ piece)) ≡ count_of reached + is_faulty (fault_in bytes)
