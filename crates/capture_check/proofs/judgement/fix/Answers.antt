use Rattle.capture_check.proofs.judgement.fix.Goals as goal

pub returns-clause-fixed : goal.returns-clause-fixed
returns-clause-fixed c = rw c.isns_told_by.ensures at c.fix_given.ensures.fixed
