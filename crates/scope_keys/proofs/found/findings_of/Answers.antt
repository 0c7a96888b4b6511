use Rattle.std.proofs.lemmas.Result.{IfOk-weaker}
use Rattle.scope_keys.proofs.found.findings_of.Goals as goal

pub returns-clause-none : goal.returns-clause-none
returns-clause-none c = IfOk-weaker c.all_findings.result _ _ (λ found h. rw h (c.findings_are_of_the_walk.ensures c.args.text.now)) c.all_findings.ensures

pub returns-clause-first : goal.returns-clause-first
returns-clause-first c = IfOk-weaker c.all_findings.result _ _ (λ found h. rw h (c.first_finding_is_the_fault.ensures c.args.text.now)) c.all_findings.ensures
