use Rattle.book_keys.proofs.SyntaxLaws.{syntax_exact}
use Rattle.book_keys.proofs.laws.syntax_is_no_document.Goals as goal

pub returns : goal.returns
returns c = syntax_exact
