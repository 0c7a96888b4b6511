use Rattle.book_macs.proofs.Inverses.{inverted, none_inverted}
use Rattle.book_macs.proofs.ciphers.inverses_multiply_to_one.Goals as goal

pub returns-clause-one : goal.returns-clause-one
returns-clause-one c = inverted

pub returns-clause-zero : goal.returns-clause-zero
returns-clause-zero c = none_inverted
