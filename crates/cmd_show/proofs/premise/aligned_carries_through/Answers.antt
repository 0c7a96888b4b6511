use Rattle.book_keys.specs.Plans.{rows_at}
use Rattle.cmd_show.proofs.JudgementLaws.{aligned_exactly}
use Rattle.cmd_show.proofs.premise.aligned_carries_through.Goals as goal

pub returns : goal.returns
returns c = λ tables pair. aligned_exactly (rows_at tables pair.local.address) (rows_at tables pair.remote.address) pair
