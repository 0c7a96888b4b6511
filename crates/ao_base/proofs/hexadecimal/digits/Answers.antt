use Rattle.ao_base.proofs.HexadecimalLanes.{values_length, values_at}
use Rattle.ao_base.proofs.hexadecimal.digits.Goals as goal

pub returns-clause-lanes : goal.returns-clause-lanes
returns-clause-lanes c = values_length c.args.word.now c.args.at c.requires c.type_inv.word

pub returns-clause-values : goal.returns-clause-values
returns-clause-values c = values_at c.args.word.now c.args.at c.requires c.type_inv.word
