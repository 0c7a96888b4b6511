use Rattle.book_why.proofs.AnswerLaws.{verdict_told}
use Rattle.book_why.proofs.text_laws.told_verdict_is_the_checks.Goals as goal

pub returns : goal.returns
returns c = verdict_told
