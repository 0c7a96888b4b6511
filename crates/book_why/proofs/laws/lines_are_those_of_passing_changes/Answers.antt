use Rattle.book_why.proofs.ChangeLaws.{passing_told, each_row_told, each_connection_told}
use Rattle.book_why.proofs.laws.lines_are_those_of_passing_changes.Goals as goal

pub returns-clause-passing : goal.returns-clause-passing
returns-clause-passing c = passing_told

pub returns-clause-rows : goal.returns-clause-rows
returns-clause-rows c = each_row_told

pub returns-clause-connections : goal.returns-clause-connections
returns-clause-connections c = each_connection_told
