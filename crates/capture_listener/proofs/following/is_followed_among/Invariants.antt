use Rattle.std.proofs.Common.{◌≡◌, ◌≤◌, drop, length}
use Rattle.book_sessions.specs.Retiring.{is_followed}
use Rattle.capture_listener.specs.Places.{uses_at}
use Rattle.capture_listener.proofs.following.is_followed_among.Given as goal

abbrev pub invariant-loop-left : goal.invariant-loop-left
invariant-loop-left l = record {
  within : l.left ≤ length l.places;
  so_far : l.followed ≡ is_followed (uses_at l.uses (drop l.left l.places)) l.one;
}

abbrev pub decreases-loop-left : goal.decreases-loop-left
decreases-loop-left l = l.left
