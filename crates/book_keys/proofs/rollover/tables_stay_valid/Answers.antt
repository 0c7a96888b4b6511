use Rattle.book_keys.proofs.TableLaws.{valid_added, valid_withdrawn}
use Rattle.book_keys.proofs.rollover.tables_stay_valid.Goals as goal

pub returns-clause-added : goal.returns-clause-added
returns-clause-added c = λ rows new r n e h. valid_added rows r n new e h

pub returns-clause-withdrawn : goal.returns-clause-withdrawn
returns-clause-withdrawn c = λ rows new n e h. valid_withdrawn rows n new e h
