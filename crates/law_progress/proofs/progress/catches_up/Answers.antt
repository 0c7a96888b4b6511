use Rattle.law_progress.proofs.Progressing.{catches_up}
use Rattle.law_progress.proofs.progress.catches_up.Goals as goal

pub returns : goal.returns
returns c = λ setup events fits tables f few. catches_up setup fits tables events f few
