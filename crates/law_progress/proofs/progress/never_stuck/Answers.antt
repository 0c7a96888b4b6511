use Rattle.law_progress.proofs.Progressing.{never_stuck}
use Rattle.law_progress.proofs.progress.never_stuck.Goals as goal

pub returns : goal.returns
returns c = λ setup events fits tables f few. never_stuck setup fits tables events f few
