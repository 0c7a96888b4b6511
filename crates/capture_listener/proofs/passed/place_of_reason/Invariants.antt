use Rattle.std.proofs.Common.{◌≡◌, ◌+◌, drop}
use Rattle.capture_listener.specs.Places.{place_of_reason}
use Rattle.capture_listener.proofs.passed.place_of_reason.Given as goal

abbrev pub invariant-loop-i : goal.invariant-loop-i
invariant-loop-i l = place_of_reason l.why l.passed ≡ place_of_reason l.why (drop l.i l.passed) + l.i
