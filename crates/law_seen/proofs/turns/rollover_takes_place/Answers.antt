use Rattle.law_seen.proofs.Turning.{takes_place}
use Rattle.law_seen.proofs.turns.rollover_takes_place.Goals as goal

pub returns : goal.returns
returns c = λ setup events e fits f. takes_place setup fits events f e
