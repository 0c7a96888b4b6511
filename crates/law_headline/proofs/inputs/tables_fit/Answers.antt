use Rattle.law_headline.proofs.InputLaws.{keyed_tables, shared_tables_fit}
use Rattle.law_headline.proofs.inputs.tables_fit.Goals as goal

pub returns-clause-keyed : goal.returns-clause-keyed
returns-clause-keyed c = keyed_tables

pub returns-clause-shared : goal.returns-clause-shared
returns-clause-shared c = shared_tables_fit
