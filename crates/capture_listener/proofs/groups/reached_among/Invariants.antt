use Rattle.std.proofs.Common.{◌≡◌, ◌≤◌, drop, length}
use Rattle.capture_listener.specs.Places.{reached_among}
use Rattle.capture_listener.proofs.groups.reached_among.Given as goal

abbrev pub invariant-loop-left : goal.invariant-loop-left
invariant-loop-left l = record {
  within : l.left ≤ length l.places;
  reached : l.reached ≡ reached_among l.segment l.uses (drop l.left l.places);
}

abbrev pub decreases-loop-left : goal.decreases-loop-left
decreases-loop-left l = l.left
