use Rattle.endpoint_steps.proofs.Moving.{only_taken}
use Rattle.endpoint_steps.proofs.endpoint_laws.only_what_is_taken_moves.Goals as goal

pub returns : goal.returns
returns c = only_taken
