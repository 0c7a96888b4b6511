use Rattle.std.proofs.Common.{◌≡◌, ◌++◌, ◌+◌, ◌-◌, map}
use Rattle.book_keys.specs.Lifetimes.{is_covered}
use Rattle.book_plans.specs.Findings.{failing_spans, gap_finding}
use Rattle.key_plan.proofs.gaps.add_uncovered.Given as goal

abbrev pub decreases-loop-time : goal.decreases-loop-time
decreases-loop-time l = (l.to + 1) - l.time

abbrev pub invariant-loop-time : goal.invariant-loop-time
invariant-loop-time l =
    l.findings.items ++ map (gap_finding l.end) (failing_spans (is_covered l.lifetimes) l.time (l.to + 1 - l.time))
    ≡ l.initial.findings.items ++ map (gap_finding l.end) (failing_spans (is_covered l.lifetimes) l.from (l.to + 1 - l.from))
