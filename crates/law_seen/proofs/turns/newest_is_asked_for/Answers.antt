use Rattle.law_seen.proofs.Newer.{asked_for}
use Rattle.law_seen.proofs.turns.newest_is_asked_for.Goals as goal

pub returns : goal.returns
returns c = λ setup w e. asked_for setup w e
