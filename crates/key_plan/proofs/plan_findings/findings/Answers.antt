use Rattle.std.proofs.Common.{◌≡◌, ◌↔◌, [], refl, sym, ap, ◌∙◌}
use Rattle.std.proofs.lemmas.Result.{IfOk-weaker}
use Rattle.book_keys.specs.declared.lint.LintAnswer.TheVariants as answer
use Rattle.book_keys.specs.declared.plan.Plan.{Plan}
use Rattle.book_keys.specs.Plans.{lint_of, lint_rows}
use Rattle.book_plans.proofs.FindingLaws.{first_is_lint, none_exactly}
use Rattle.book_plans.specs.Findings.{findings, first_answer}
use Rattle.key_plan.proofs.plan_findings.findings.Goals as goal

pub returns-clause-first : goal.returns-clause-first
returns-clause-first c =
    let a = c.rows_at.result.now in
    let b = c.rows_at-2.result.now in
    let pair = c.args.pair.now in
    let plan : Plan = record { lead = c.args.lead; lag = c.args.lag; from = c.args.from; to = c.args.to } in
    let same : lint_rows a b pair plan ≡ lint_of c.args.tables.now pair plan =
    rw (c.rows_at.ensures.value, c.rows_at-2.ensures.value) refl in
    IfOk-weaker c.findings_of_both.result
    (λ v. v.items ≡ findings a b pair plan)
    (λ v. first_answer v.items ≡ lint_of c.args.tables.now pair plan)
    (λ v e. ap first_answer e ∙ first_is_lint a b pair plan ∙ same)
    c.findings_of_both.ensures

pub returns-clause-none : goal.returns-clause-none
returns-clause-none c =
    let a = c.rows_at.result.now in
    let b = c.rows_at-2.result.now in
    let pair = c.args.pair.now in
    let plan : Plan = record { lead = c.args.lead; lag = c.args.lag; from = c.args.from; to = c.args.to } in
    let same : lint_rows a b pair plan ≡ lint_of c.args.tables.now pair plan =
    rw (c.rows_at.ensures.value, c.rows_at-2.ensures.value) refl in
    let law = none_exactly a b pair plan in
    IfOk-weaker c.findings_of_both.result
    (λ v. v.items ≡ findings a b pair plan)
    (λ v. (v.items ≡ []) ↔ (lint_of c.args.tables.now pair plan ≡ answer.Aligned))
    (λ v e. (λ n. sym same ∙ law.0 (sym e ∙ n), λ s. e ∙ law.1 (same ∙ s)))
    c.findings_of_both.ensures
