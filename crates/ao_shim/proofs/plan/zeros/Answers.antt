use Rattle.ao_shim.proofs.SealLaws.{zeros_taken}
use Rattle.ao_shim.proofs.plan.zeros.Goals as goal

pub returns : goal.returns
returns c = zeros_taken c.args.count c.requires
