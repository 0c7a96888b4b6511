use Rattle.law_memory.proofs.Answering.{answered}
use Rattle.law_memory.proofs.memory.answer_in_memory.Goals as goal

pub returns : goal.returns
returns c = answered
