use Rattle.law_ends.proofs.Turns.{has_its_turn}
use Rattle.law_ends.proofs.connections.each_has_its_turn.Goals as goal

pub returns : goal.returns
returns c = has_its_turn
