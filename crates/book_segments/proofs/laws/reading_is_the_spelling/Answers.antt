use Rattle.book_segments.proofs.SpellLaws.{read_stands, read_front, finished_is_good, finished_again}
use Rattle.book_segments.proofs.SumLaws.{finished_fits}
use Rattle.book_segments.proofs.laws.reading_is_the_spelling.Goals as goal

pub returns-clause-read : goal.returns-clause-read
returns-clause-read c = read_stands

pub returns-clause-only : goal.returns-clause-only
returns-clause-only c = read_front

pub returns-clause-finished : goal.returns-clause-finished
returns-clause-finished c = λ d rest f. (finished_is_good d f, finished_fits d f, finished_again d rest f)
