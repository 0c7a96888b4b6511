use Rattle.book_keys.proofs.OverlapLaws.{first_overlap-some, first_overlap-none}
use Rattle.book_keys.proofs.laws.first_overlap_is_least.Goals as goal

pub returns-clause-some : goal.returns-clause-some
returns-clause-some c = first_overlap-some

pub returns-clause-none : goal.returns-clause-none
returns-clause-none c = first_overlap-none
