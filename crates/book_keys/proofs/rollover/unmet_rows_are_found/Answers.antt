use Rattle.book_keys.proofs.UnmetLaws.{none_misaligned, aligned_has_none}
use Rattle.book_keys.proofs.rollover.unmet_rows_are_found.Goals as goal

pub returns : goal.returns
returns c = λ a b pair lead lag. (none_misaligned a b pair lead lag, aligned_has_none a b pair lead lag)
