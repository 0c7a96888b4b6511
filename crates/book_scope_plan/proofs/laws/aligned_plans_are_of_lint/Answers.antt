use Rattle.book_scope_plan.proofs.GoodLaws.{good_exactly}
use Rattle.book_scope_plan.proofs.laws.aligned_plans_are_of_lint.Goals as goal

pub returns : goal.returns
returns c = good_exactly
