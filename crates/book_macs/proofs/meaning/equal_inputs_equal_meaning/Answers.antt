use Rattle.book_macs.proofs.meaning.equal_inputs_equal_meaning.Goals as goal
use Rattle.book_macs.proofs.Ids.{equal_inputs_equal_meaning}

pub returns : goal.returns
returns c = equal_inputs_equal_meaning
