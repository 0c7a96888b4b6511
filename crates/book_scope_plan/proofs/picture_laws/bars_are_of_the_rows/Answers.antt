use Rattle.book_scope_plan.proofs.FillingLaws.{row_wholly, row_never}
use Rattle.book_scope_plan.proofs.picture_laws.bars_are_of_the_rows.Goals as goal

pub returns-clause-wholly : goal.returns-clause-wholly
returns-clause-wholly c = row_wholly

pub returns-clause-never : goal.returns-clause-never
returns-clause-never c = row_never
