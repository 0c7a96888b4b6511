use Rattle.book_scope_run.proofs.ToldLaws.{told_is}
use Rattle.book_scope_run.proofs.laws.the_report_is_told.Goals as goal

pub returns : goal.returns
returns c = told_is
