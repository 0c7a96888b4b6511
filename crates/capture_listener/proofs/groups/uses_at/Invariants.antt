use Rattle.std.proofs.Common.{◌≡◌, ◌++◌, drop}
use Rattle.capture_listener.specs.Places.{uses_at}
use Rattle.capture_listener.proofs.groups.uses_at.Given as goal

abbrev pub invariant-loop-place : goal.invariant-loop-place
invariant-loop-place l = l.out.items ++ uses_at l.uses (drop l.place-index l.places) ≡ uses_at l.uses l.places
