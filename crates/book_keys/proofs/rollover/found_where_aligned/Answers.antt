use Rattle.book_keys.proofs.PlanLaws.{all_found}
use Rattle.book_keys.proofs.rollover.found_where_aligned.Goals as goal

pub returns : goal.returns
returns c = all_found
