use Rattle.book_scope_plan.proofs.MarkLaws.{marks_exactly, unmarked}
use Rattle.book_scope_plan.proofs.picture_laws.marks_are_of_the_plan.Goals as goal

pub returns-clause-wrong : goal.returns-clause-wrong
returns-clause-wrong c = marks_exactly

pub returns-clause-aligned : goal.returns-clause-aligned
returns-clause-aligned c = unmarked
