use Rattle.law_seen.proofs.Keeping.{none_in_any}
use Rattle.law_seen.proofs.sessions.none_in_any.Goals as goal

pub returns : goal.returns
returns c = λ e isn history none. none_in_any e isn history none
