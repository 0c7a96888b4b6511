use Rattle.book_draw.proofs.Table.{all_counted, all_ends, all_sessions}
use Rattle.book_draw.proofs.session_laws.rungs_are_those_of_the_table.Goals as goal

pub returns-clause-sessions : goal.returns-clause-sessions
returns-clause-sessions c = all_sessions

pub returns-clause-ends : goal.returns-clause-ends
returns-clause-ends c = all_ends

pub returns-clause-counted : goal.returns-clause-counted
returns-clause-counted c = all_counted
