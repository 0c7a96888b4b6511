use Rattle.book_sessions.proofs.RightMacs.{searched_is_found, unconfirmed_is_right, verified_is_right}
use Rattle.book_sessions.proofs.laws.right_macs_pass_the_check.Goals as goal

pub returns-clause-verified : goal.returns-clause-verified
returns-clause-verified c = verified_is_right

pub returns-clause-unconfirmed : goal.returns-clause-unconfirmed
returns-clause-unconfirmed c = unconfirmed_is_right

pub returns-clause-found : goal.returns-clause-found
returns-clause-found c = searched_is_found
