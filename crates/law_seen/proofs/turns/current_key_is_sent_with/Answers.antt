use Rattle.law_seen.proofs.Sending.{sends_under}
use Rattle.law_seen.proofs.turns.current_key_is_sent_with.Goals as goal

pub returns : goal.returns
returns c = λ setup w e q h may. sends_under setup w e q h may
