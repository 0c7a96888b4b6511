use Rattle.book_keys.proofs.ValidLaws.{tables_of-valid, shared-valid, empty-valid}
use Rattle.book_keys.proofs.laws.tables_are_valid.Goals as goal

pub returns-clause-file : goal.returns-clause-file
returns-clause-file c = tables_of-valid

pub returns-clause-shared : goal.returns-clause-shared
returns-clause-shared c = shared-valid

pub returns-clause-empty : goal.returns-clause-empty
returns-clause-empty c = empty-valid
