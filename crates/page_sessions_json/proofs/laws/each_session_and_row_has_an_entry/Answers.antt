use Rattle.page_sessions_json.proofs.Entries.{foreign_length, rows_length, sessions_length}
use Rattle.page_sessions_json.proofs.laws.each_session_and_row_has_an_entry.Goals as goal

pub returns-clause-sessions : goal.returns-clause-sessions
returns-clause-sessions c = sessions_length

pub returns-clause-foreign : goal.returns-clause-foreign
returns-clause-foreign c = foreign_length

pub returns-clause-rows : goal.returns-clause-rows
returns-clause-rows c = rows_length
