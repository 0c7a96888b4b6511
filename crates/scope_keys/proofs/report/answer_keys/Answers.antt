use Rattle.scope_keys.proofs.FileLaws.{amiss_by, is_accepted, is_faultless}
use Rattle.std.proofs.lemmas.Result.{IfOk-weaker}
use Rattle.scope_keys.proofs.report.answer_keys.Goals as goal

pub returns-clause-amiss : goal.returns-clause-amiss
returns-clause-amiss c = IfOk-weaker c.report.result _ _ (λ r h. amiss_by r.is_amiss c.args.text.now h) c.report.ensures.amiss

pub returns-clause-faultless : goal.returns-clause-faultless
returns-clause-faultless c = IfOk-weaker c.report.result _ _ (λ r h. is_faultless r.is_amiss c.args.text.now h) c.report.ensures.amiss

pub returns-clause-accepted : goal.returns-clause-accepted
returns-clause-accepted c = IfOk-weaker c.report.result _ _ (λ r h. is_accepted r.is_amiss c.args.text.now h) c.report.ensures.amiss
