use Rattle.law_lossless.proofs.Talking.{stacks_deliver}
use Rattle.law_lossless.proofs.meeting.stacks_deliver.Goals as goal

pub returns : goal.returns
returns c = λ setup events fits tables f few. stacks_deliver setup fits tables events f few
