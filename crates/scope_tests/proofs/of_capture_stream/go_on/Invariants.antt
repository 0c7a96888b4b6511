use Rattle.std.proofs.Common.{◌≡◌, ◌-◌, false}
use Rattle.scope_tests.proofs.of_capture_stream.go_on.Given as goal

abbrev pub invariant-parts : goal.invariant-parts
invariant-parts l = l.reader.over ≡ false

abbrev pub decreases-parts : goal.decreases-parts
decreases-parts l = 9223372036854775808 - l.reader.counts.bytes
