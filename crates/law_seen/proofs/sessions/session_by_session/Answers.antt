use Rattle.law_seen.proofs.Streams.{session_by_session}
use Rattle.law_seen.proofs.sessions.session_by_session.Goals as goal

pub returns : goal.returns
returns c = λ setup events fits f. session_by_session setup fits events f
