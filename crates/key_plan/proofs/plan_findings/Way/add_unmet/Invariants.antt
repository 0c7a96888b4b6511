use Rattle.std.proofs.Common.{◌≡◌, ◌++◌, ◌+◌, drop}
use Rattle.book_keys.specs.Plans.{unmet_reason}
use Rattle.book_plans.specs.Findings.{unmet_findings}
use Rattle.key_plan.proofs.plan_findings.Way.add_unmet.Given as goal

abbrev pub invariant-loop-i : goal.invariant-loop-i
invariant-loop-i l =
    l.findings.items ++ unmet_findings (unmet_reason l.self.others.now l.self.pair l.self.lead l.self.lag) l.end (l.i + 1) (drop l.i l.self.rows.now)
    ≡ l.initial.findings.items ++ unmet_findings (unmet_reason l.self.others.now l.self.pair l.self.lead l.self.lag) l.end 1 l.self.rows.now
