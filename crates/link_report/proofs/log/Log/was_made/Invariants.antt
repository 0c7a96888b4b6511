use Rattle.link_report.specs.Numbers.{past}
use Rattle.link_report.proofs.LogLaws.{Rejected}
use Rattle.link_report.proofs.NumberLaws.{Search}
use Rattle.link_report.proofs.log.Log.was_made.Given as goal

abbrev pub invariant-loop-next : goal.invariant-loop-next
invariant-loop-next l = Search (Rejected l.at l.row l.datagram l.passing.passed.number l.passing.passed.context) l.kept l.number l.next

abbrev pub decreases-loop-next : goal.decreases-loop-next
decreases-loop-next l = past l.next
