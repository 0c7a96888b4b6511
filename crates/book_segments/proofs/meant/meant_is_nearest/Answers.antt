use Rattle.book_segments.proofs.Nearest.{nearest_some, nearest_only, nearest_told}
use Rattle.book_segments.proofs.meant.meant_is_nearest.Goals as goal

pub returns-clause-some : goal.returns-clause-some
returns-clause-some c = nearest_some

pub returns-clause-only : goal.returns-clause-only
returns-clause-only c = nearest_only

pub returns-clause-told : goal.returns-clause-told
returns-clause-told c = nearest_told
