use Rattle.std.proofs.Common.{◌≡◌, drop}
use Rattle.std.specs.List.{position_from}
use Rattle.stack_timers.specs.Places.{is_of}
use Rattle.stack_timers.proofs.alarms.place_from.Given as goal

abbrev pub invariant-loop-i : goal.invariant-loop-i
invariant-loop-i l = position_from (is_of l.pair) l.i (drop l.i l.alarms) ≡ position_from (is_of l.pair) l.from (drop l.from l.alarms)
