use Rattle.std.proofs.Common.{◌≡◌, ◌++◌, drop}
use Rattle.std.specs.Prelude.{flat_map}
use Rattle.book_scope_plan.specs.WayTexts.{finding_text}
use Rattle.scope_plan.specs.Facings.{facing_of}
use Rattle.scope_plan.proofs.findings.push_findings.Given as goal

abbrev pub invariant-loop-finding : goal.invariant-loop-finding
invariant-loop-finding l =
    l.out.items ++ flat_map (finding_text (facing_of l.facing)) (drop l.finding-index l.findings)
    ≡ l.fn.out.items ++ flat_map (finding_text (facing_of l.facing)) l.findings
