use Rattle.law_sessions.proofs.Unhidden.{hides_nothing}
use Rattle.law_sessions.proofs.laws.older_connections_hide_nothing.Goals as goal

pub returns : goal.returns
returns c j l others now d is = hides_nothing j l others now d is
