use Rattle.std.proofs.Common.{eqb-true}
use Rattle.std.proofs.lemmas.Bool.{eqb-false}
use Rattle.ao_base.proofs.HexadecimalLanes.{no_bit, some_bit}
use Rattle.ao_base.proofs.hexadecimal.are_digits.Goals as goal

pub returns-clause-yes : goal.returns-clause-yes
returns-clause-yes c = λ yes. no_bit c.args.values c.requires (eqb-true _ _ yes)

pub returns-clause-no : goal.returns-clause-no
returns-clause-no c = λ no. some_bit c.args.values c.requires (eqb-false _ _ no)
