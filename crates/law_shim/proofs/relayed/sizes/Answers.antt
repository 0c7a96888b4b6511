use Rattle.law_shim.proofs.Lengths.{sealed_long}
use Rattle.law_shim.proofs.Told.{told_so, within}
use Rattle.law_shim.proofs.relayed.sizes.Goals as goal

pub returns-clause-longer : goal.returns-clause-longer
returns-clause-longer c = sealed_long

pub returns-clause-told : goal.returns-clause-told
returns-clause-told c = told_so

pub returns-clause-room : goal.returns-clause-room
returns-clause-room c = within
