use Rattle.book_plans.proofs.DifferenceLaws.{alike_accepts}
use Rattle.book_plans.proofs.laws.alike_rows_accept.Goals as goal

pub returns : goal.returns
returns c = alike_accepts
