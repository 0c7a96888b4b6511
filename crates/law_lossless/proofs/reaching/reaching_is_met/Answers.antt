use Rattle.law_lossless.proofs.ReachingBeginning.{meets}
use Rattle.law_lossless.proofs.reaching.reaching_is_met.Goals as goal

pub returns : goal.returns
returns c = meets
