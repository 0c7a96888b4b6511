use Rattle.law_shim.proofs.Accounts.{to_the_end, to_the_kernel}
use Rattle.law_shim.proofs.end_laws.authentic_beside_an_end.Goals as goal

pub returns-clause-to_the_kernel : goal.returns-clause-to_the_kernel
returns-clause-to_the_kernel c = to_the_kernel

pub returns-clause-to_the_end : goal.returns-clause-to_the_end
returns-clause-to_the_end c = to_the_end
