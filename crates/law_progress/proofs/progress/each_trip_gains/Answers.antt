use Rattle.law_progress.proofs.Progressing.{each_trip_gains}
use Rattle.law_progress.proofs.progress.each_trip_gains.Goals as goal

pub returns : goal.returns
returns c = λ setup events fits tables f few. each_trip_gains setup fits tables events f few
