use Rattle.std.proofs.Common.{◌≡◌, ◌≤◌, drop, length}
use Rattle.book_sessions.specs.Retiring.{ending_by}
use Rattle.capture_listener.specs.Places.{uses_at}
use Rattle.capture_listener.proofs.ending.ending_among.Given as goal

abbrev pub invariant-loop-left : goal.invariant-loop-left
invariant-loop-left l = record {
  within : l.left ≤ length l.places;
  so_far : l.ending ≡ ending_by l.one (uses_at l.uses (drop l.left l.places));
}

abbrev pub decreases-loop-left : goal.decreases-loop-left
decreases-loop-left l = l.left
