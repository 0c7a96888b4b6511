use Rattle.law_ends.proofs.Resetting.{reset_by_abort}
use Rattle.law_ends.proofs.ends.resets_come_of_aborts.Goals as goal

pub returns : goal.returns
returns c = λ setup most doings e coming fits all fresh. reset_by_abort setup most doings e coming fits all fresh
