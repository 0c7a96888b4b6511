use Rattle.book_segments.proofs.SpellLaws.{one_spelling, one_value, no_prefix}
use Rattle.book_segments.proofs.laws.spellings_are_unique.Goals as goal

pub returns-clause-one_spelling : goal.returns-clause-one_spelling
returns-clause-one_spelling c = one_spelling

pub returns-clause-one_value : goal.returns-clause-one_value
returns-clause-one_value c = one_value

pub returns-clause-no_prefix : goal.returns-clause-no_prefix
returns-clause-no_prefix c = λ d e bytes rest s t. (no_prefix d e bytes rest s t).1
