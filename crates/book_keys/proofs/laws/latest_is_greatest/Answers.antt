use Rattle.book_keys.proofs.ChoiceLaws.{latest-IsLatest, latest-none}
use Rattle.book_keys.proofs.laws.latest_is_greatest.Goals as goal

pub returns-clause-some : goal.returns-clause-some
returns-clause-some c = latest-IsLatest

pub returns-clause-none : goal.returns-clause-none
returns-clause-none c = λ good start rows. latest-none good start 1 rows
