use Rattle.std.proofs.Common.{◌≤◌, ◌+◌, length}
use Rattle.book_segments.specs.Options.{options_of, options_at}
use Rattle.book_segments.proofs.Walks.{Passes}
use Rattle.tcp_segment.proofs.options.fault_in.Given as goal

abbrev pub invariant-loop-size : goal.invariant-loop-size
invariant-loop-size l = (l.place + length l.rest ≤ 40) × Passes (options_of l.fn.area) (options_at l.place l.rest)

abbrev pub decreases-loop-size : goal.decreases-loop-size
decreases-loop-size l = length l.rest
