use Rattle.book_why.proofs.LackLaws.{row_lacks, rows_lack}
use Rattle.book_why.proofs.text_laws.rows_lack_nothing_where_they_take.Goals as goal

pub returns-clause-row : goal.returns-clause-row
returns-clause-row c = row_lacks

pub returns-clause-rows : goal.returns-clause-rows
returns-clause-rows c = rows_lack
