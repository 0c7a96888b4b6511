use Rattle.book_segments.proofs.Folding.{folded_fits, folded_same, sums_is_right, right_is_sums, complement_over, complement_none, complement_zero}
use Rattle.book_segments.proofs.laws.folded_sums_are_remainders.Goals as goal

pub returns-clause-fits : goal.returns-clause-fits
returns-clause-fits c = folded_fits

pub returns-clause-same : goal.returns-clause-same
returns-clause-same c = folded_same

pub returns-clause-right : goal.returns-clause-right
returns-clause-right c = λ bytes. (sums_is_right bytes, right_is_sums bytes)

pub returns-clause-complement : goal.returns-clause-complement
returns-clause-complement c = complement_over

pub returns-clause-divisible : goal.returns-clause-divisible
returns-clause-divisible c = complement_none

pub returns-clause-zero : goal.returns-clause-zero
returns-clause-zero c = complement_zero
