use Rattle.law_shim.proofs.Resets.{begun, given_up, in_use}
use Rattle.law_shim.proofs.answering.rst_is_sealed_where_it_answers.Goals as goal

pub returns-clause-in_use : goal.returns-clause-in_use
returns-clause-in_use c = in_use

pub returns-clause-begun : goal.returns-clause-begun
returns-clause-begun c = begun

pub returns-clause-given_up : goal.returns-clause-given_up
returns-clause-given_up c = given_up
