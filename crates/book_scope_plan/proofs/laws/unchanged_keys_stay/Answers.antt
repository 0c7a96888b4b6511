use Rattle.book_scope_plan.proofs.ChangeLaws.{unchanged_both}
use Rattle.book_scope_plan.proofs.laws.unchanged_keys_stay.Goals as goal

pub returns-clause-at_a : goal.returns-clause-at_a
returns-clause-at_a c tables plan pair time unchanged low high = (unchanged_both tables plan pair time unchanged low high).0

pub returns-clause-at_b : goal.returns-clause-at_b
returns-clause-at_b c tables plan pair time unchanged low high = (unchanged_both tables plan pair time unchanged low high).1
