use Rattle.std.proofs.Common.{◌≡◌, false}
use Rattle.base_tests.proofs.of_line_reader.read.Given as goal

abbrev pub invariant-lines : goal.invariant-lines
invariant-lines l = l.reader.over ≡ false
