use Rattle.law_sessions.proofs.OldSigns.{old_shows}
use Rattle.law_sessions.proofs.laws.nothing_old_shows_anything.Goals as goal

pub returns : goal.returns
returns c s uses old = old_shows s uses old
