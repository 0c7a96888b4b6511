use Rattle.book_scope_plan.proofs.OrderLaws.{bars_few}
use Rattle.book_scope_plan.proofs.picture_laws.bars_are_few.Goals as goal

pub returns : goal.returns
returns c = bars_few
