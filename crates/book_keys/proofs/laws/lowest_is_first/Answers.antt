use Rattle.book_keys.proofs.ChoiceLaws.{lowest-IsLowest, lowest-none}
use Rattle.book_keys.proofs.laws.lowest_is_first.Goals as goal

pub returns-clause-some : goal.returns-clause-some
returns-clause-some c = lowest-IsLowest

pub returns-clause-none : goal.returns-clause-none
returns-clause-none c = λ good rows. lowest-none good 1 rows
