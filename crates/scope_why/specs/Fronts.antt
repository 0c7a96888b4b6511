-- What stands in front of a packet, as the machine holds it (own).
use Rattle.std.specs.Prelude.{◌≡◌, ℕ, List, ◌++◌, Result, Ok, Err}
use Rattle.book_keys.specs.Rows.{Table}
use Rattle.book_segments.specs.Segments.{reading}
use Rattle.book_cmd_check.specs.declared.given.GivenIsns.{GivenIsns}
use Rattle.book_cmd_check.specs.Captures.{Stored, hear}
use Rattle.book_sessions.specs.declared.outcome.PassedOver.{PassedOver}
use Rattle.book_why.specs.Answers.{Behind}
use Rattle.book_why.specs.OtherIsns.{told_by_reading}
use Rattle.book_base.specs.declared.address.Pair.{Pair}
use Rattle.capture_check.specs.declared.flows.Flows.{Flows}
use Rattle.capture_check.specs.Checkers.{StandsFor}
use Rattle.scope_why.specs.declared.shown.StoredBytes.{StoredBytes}

-- what a packet of this number has
abbrev pub stored_as : ℕ → Result StoredBytes PassedOver → Result Stored PassedOver
stored_as n (Ok s) = Ok (record { number = n; time = s.time; bytes = s.bytes.now })
stored_as n (Err why) = Err why

-- the checker knows the connections that are held, and all that was told was kept
pub record StandsBehind (entries : List (Pair × Flows)) (told : List GivenIsns) (b : Behind) : Type 0 where
  pub stands : StandsFor entries b.held
  pub tells : told ≡ b.told

-- what stands behind a packet of which this is judged
abbrev pub behind_one : List Table → Behind → Result Stored PassedOver → Behind
behind_one tables b (Err why) = b
behind_one tables b (Ok s) = record {
  held = (hear tables b.held s.time s.bytes).connections;
  told = b.told ++ told_by_reading (reading s.bytes);
}
