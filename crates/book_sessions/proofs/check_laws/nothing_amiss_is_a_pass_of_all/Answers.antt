use Rattle.book_sessions.proofs.Passing.{nothing_amiss}
use Rattle.book_sessions.proofs.check_laws.nothing_amiss_is_a_pass_of_all.Goals as goal

pub returns : goal.returns
returns c = nothing_amiss
