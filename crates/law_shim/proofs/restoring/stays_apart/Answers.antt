use Rattle.law_shim.proofs.Apart.{afresh, anew, later}
use Rattle.law_shim.proofs.restoring.stays_apart.Goals as goal

pub returns-clause-afresh : goal.returns-clause-afresh
returns-clause-afresh c = afresh

pub returns-clause-anew : goal.returns-clause-anew
returns-clause-anew c = anew

pub returns-clause-later : goal.returns-clause-later
returns-clause-later c = later
