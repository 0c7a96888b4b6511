use Rattle.book_scope_texts.proofs.WalkLaws.{findings_exact}
use Rattle.book_scope_texts.proofs.key_laws.findings_are_of_the_walk.Goals as goal

pub returns : goal.returns
returns c = findings_exact
