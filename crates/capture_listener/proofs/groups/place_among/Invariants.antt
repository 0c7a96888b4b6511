use Rattle.std.proofs.Common.{◌≡◌, drop}
use Rattle.capture_listener.specs.Places.{place_among}
use Rattle.capture_listener.proofs.groups.place_among.Given as goal

abbrev pub invariant-loop-place : goal.invariant-loop-place
invariant-loop-place l = place_among l.segment l.uses (drop l.place-index l.places) ≡ place_among l.segment l.uses l.places
