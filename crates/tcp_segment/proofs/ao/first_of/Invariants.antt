use Rattle.std.proofs.Common.{◌≡◌, ◌≤◌, ◌+◌, length}
use Rattle.book_segments.specs.Options.{options_at, listed, of_kind, AreListed}
use Rattle.tcp_segment.proofs.ao.first_of.Given as goal

abbrev pub invariant-loop-option : goal.invariant-loop-option
invariant-loop-option l =
    (l.place + length l.rest ≤ l.fn.from + length l.fn.area) × AreListed (options_at l.place l.rest)
    × (of_kind l.fn.kind (listed (options_at l.place l.rest)) ≡ of_kind l.fn.kind (listed (options_at l.fn.from l.fn.area)))

abbrev pub decreases-loop-option : goal.decreases-loop-option
decreases-loop-option l = length l.rest
