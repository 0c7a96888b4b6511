use Rattle.std.proofs.Common.{◌≡◌, ◌≤◌, drop, length}
use Rattle.book_sessions.specs.Retiring.{wanting_by, wants_row}
use Rattle.capture_listener.specs.Places.{uses_at}
use Rattle.capture_listener.proofs.wanting.wanting_among.Given as goal

abbrev pub invariant-loop-left : goal.invariant-loop-left
invariant-loop-left l = record {
  within : l.left ≤ length l.places;
  so_far : l.wanting ≡ wanting_by (wants_row l.table l.number l.row) l.source l.destination (uses_at l.uses (drop l.left l.places));
}

abbrev pub decreases-loop-left : goal.decreases-loop-left
decreases-loop-left l = l.left
