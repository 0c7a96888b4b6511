use Rattle.book_scope_plan.proofs.OrderLaws.{part_of_a, part_of_b}
use Rattle.book_scope_plan.proofs.picture_laws.what_is_compared_is_together.Goals as goal

pub returns-clause-there : goal.returns-clause-there
returns-clause-there c = part_of_a

pub returns-clause-back : goal.returns-clause-back
returns-clause-back c = part_of_b
