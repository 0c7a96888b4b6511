use Rattle.stack_ends.proofs.JudgedLaws.{judged_bad, judged_good}
use Rattle.stack_ends.proofs.ends.Ends.check_syn.Goals as goal

pub returns-in-Ok-clause-judged : goal.returns-in-Ok-clause-judged
returns-in-Ok-clause-judged g c = λ rows n S. judged_good c.args.self.now rows n c.args.pair.now c.args.datagram.now S _ c.in-Ok.ensures.verdict

pub returns-in-Err-clause-judged : goal.returns-in-Err-clause-judged
returns-in-Err-clause-judged g c = λ rows n S. judged_bad c.args.self.now rows n c.args.pair.now c.args.datagram.now S c.in-Err.why c.in-Err.ensures.verdict
