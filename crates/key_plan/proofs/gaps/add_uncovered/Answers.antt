use Rattle.std.proofs.Common.{◌≡◌, ◌+◌, ◌-◌, List, [], ◌∷◌, ◌++◌, map, arith}
use Rattle.book_plans.specs.declared.finding.Finding.{Finding}
use Rattle.book_plans.specs.Findings.{Span, failing_spans, gap_finding}
use Rattle.book_plans.proofs.FindingLaws.{no_span, one_span}
use Rattle.book_keys.specs.Lifetimes.{is_covered}
use Rattle.key_plan.proofs.AddedLaws.{all_added, one_added}
use Rattle.key_plan.proofs.gaps.add_uncovered.Goals as goal

pub returns-in-None : goal.returns-in-None
returns-in-None c =
    let good = is_covered c.args.lifetimes.now in
    let time = c.loop-time.time in
    let total = c.args.findings.now.items ++ map (gap_finding c.args.end) (failing_spans good c.args.from (c.args.to + 1 - c.args.from)) in
    all_added c.loop-time.findings.items total (gap_finding c.args.end) (failing_spans good time (c.args.to + 1 - time))
    c.loop-time.invariant (no_span good time c.args.to c.in-None.ensures.none)

pub returns-then-last-to : goal.returns-then-last-to
returns-then-last-to c =
    let good = is_covered c.args.lifetimes.now in
    let time = c.loop-time.time in
    let first = c.in-Some.first in
    let last = c.end_of_gap-last.result in
    let span : Span = record { first = first; last = last } in
    let total = c.args.findings.now.items ++ map (gap_finding c.args.end) (failing_spans good c.args.from (c.args.to + 1 - c.args.from)) in
    let more = failing_spans good (last + 1) (c.args.to + 1 - (last + 1)) in
    let gap = c.in-Some.ensures.some in
    let end = c.end_of_gap-last.ensures in
    all_added c.push.new.self.items total (gap_finding c.args.end) more
    (one_added c.loop-time.findings.items total c.push.new.self.items (gap_finding c.args.end) span (failing_spans good time (c.args.to + 1 - time)) more
    c.loop-time.invariant (one_span good time first last c.args.to gap.above end.above end.below gap.least end.free end.covered) c.in_ok-push.ensures.items)
    (no_span good (last + 1) c.args.to (λ t a b. absurd (omega arith)))

pub loop-time-preserved : goal.loop-time-preserved
loop-time-preserved c =
    let good = is_covered c.args.lifetimes.now in
    let time = c.loop-time.time in
    let first = c.in-Some.first in
    let last = c.end_of_gap-last.result in
    let span : Span = record { first = first; last = last } in
    let total = c.args.findings.now.items ++ map (gap_finding c.args.end) (failing_spans good c.args.from (c.args.to + 1 - c.args.from)) in
    let more = failing_spans good (last + 1) (c.args.to + 1 - (last + 1)) in
    let gap = c.in-Some.ensures.some in
    let end = c.end_of_gap-last.ensures in
    one_added c.loop-time.findings.items total c.push.new.self.items (gap_finding c.args.end) span (failing_spans good time (c.args.to + 1 - time)) more
    c.loop-time.invariant (one_span good time first last c.args.to gap.above end.above end.below gap.least end.free end.covered) c.in_ok-push.ensures.items
