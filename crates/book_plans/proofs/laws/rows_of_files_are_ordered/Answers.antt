use Rattle.book_plans.proofs.OrderLaws.{file_ordered}
use Rattle.book_plans.proofs.laws.rows_of_files_are_ordered.Goals as goal

pub returns : goal.returns
returns c = file_ordered
