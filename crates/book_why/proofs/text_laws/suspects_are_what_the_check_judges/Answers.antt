use Rattle.book_why.proofs.SuspectLaws.{known_told, fails_told, passes_told}
use Rattle.book_why.proofs.text_laws.suspects_are_what_the_check_judges.Goals as goal

pub returns-clause-known : goal.returns-clause-known
returns-clause-known c = known_told

pub returns-clause-fails : goal.returns-clause-fails
returns-clause-fails c = fails_told

pub returns-clause-passes : goal.returns-clause-passes
returns-clause-passes c = passes_told
