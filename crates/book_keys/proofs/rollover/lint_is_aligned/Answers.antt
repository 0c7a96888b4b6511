use Rattle.book_keys.proofs.GapLaws.{lint_aligned}
use Rattle.book_keys.proofs.rollover.lint_is_aligned.Goals as goal

pub returns : goal.returns
returns c = lint_aligned
