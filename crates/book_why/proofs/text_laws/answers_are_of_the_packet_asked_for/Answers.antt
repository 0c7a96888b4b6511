use Rattle.book_why.proofs.AnswerLaws.{text_told, pass_told, missing_told}
use Rattle.book_why.proofs.text_laws.answers_are_of_the_packet_asked_for.Goals as goal

pub returns-clause-text : goal.returns-clause-text
returns-clause-text c = text_told

pub returns-clause-passes : goal.returns-clause-passes
returns-clause-passes c = pass_told

pub returns-clause-missing : goal.returns-clause-missing
returns-clause-missing c = missing_told
