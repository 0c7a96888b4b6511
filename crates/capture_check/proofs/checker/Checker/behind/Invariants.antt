use Rattle.std.proofs.Common.{◌≡◌, drop}
use Rattle.capture_check.specs.Checkers.{StandsFor}
use Rattle.capture_check.proofs.GivenLaws.{HoldsBut}
use Rattle.capture_check.proofs.checker.Checker.behind.Given as goal

abbrev pub invariant-loop-given : goal.invariant-loop-given
invariant-loop-given l = record {
  tables : l.checker.tables ≡ l.fn.tables;
  holds : HoldsBut (StandsFor l.checker.entries) l.isns (drop l.given-index l.isns);
}
