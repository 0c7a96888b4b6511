use Rattle.book_sessions.specs.Sessions.{session_of}
use Rattle.law_sessions.proofs.Grown.{frees_none}
use Rattle.law_sessions.proofs.laws.nothing_old_frees_a_row.Goals as goal

pub returns : goal.returns
returns c tables t n r latest table s last none told = frees_none tables t n r latest table s (session_of s table.uses) last none told
