use Rattle.std.proofs.Common.{◌-◌}
use Rattle.capture_listener.proofs.LapLaws.{Searching}
use Rattle.capture_listener.proofs.laps.search.Given as goal

abbrev pub invariant-loop-ahead : goal.invariant-loop-ahead
invariant-loop-ahead g l = Searching l.tables l.laps l.time l.expected l.datagram l.fn.connections l.connections l.number l.ahead

abbrev pub decreases-loop-ahead : goal.decreases-loop-ahead
decreases-loop-ahead g l = l.laps - l.ahead
