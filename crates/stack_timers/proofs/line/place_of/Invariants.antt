use Rattle.std.proofs.Common.{◌≡◌, drop}
use Rattle.std.specs.List.{position_from}
use Rattle.stack_timers.specs.Places.{is_pair}
use Rattle.stack_timers.proofs.line.place_of.Given as goal

abbrev pub invariant-loop-i : goal.invariant-loop-i
invariant-loop-i l = position_from (is_pair l.pair) l.i (drop l.i l.pairs) ≡ position_from (is_pair l.pair) 0 l.pairs
