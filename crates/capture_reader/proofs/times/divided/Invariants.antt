use Rattle.std.proofs.Common.{◌≡◌, ◌/◌, ◌^◌, ◌≤◌}
use Rattle.capture_reader.proofs.times.divided.Given as goal

abbrev pub invariant-powers : goal.invariant-powers
invariant-powers l = (l.left ≡ l.fn.number / l.fn.base ^ l.counter) × (l.left ≤ l.fn.number)
