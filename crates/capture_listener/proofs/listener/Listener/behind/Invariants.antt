use Rattle.std.proofs.Common.{◌≡◌, drop}
use Rattle.capture_check.proofs.GivenLaws.{HoldsBut}
use Rattle.capture_listener.proofs.HeldLaws.{KnowsHeld}
use Rattle.capture_listener.proofs.listener.Listener.behind.Given as goal

abbrev pub invariant-loop-given : goal.invariant-loop-given
invariant-loop-given l = record {
  judging : l.listener.judging ≡ record { tables = l.fn.tables; laps = l.fn.laps };
  holds : HoldsBut (KnowsHeld l.listener) l.isns (drop l.given-index l.isns);
}
