use Rattle.std.proofs.Common.{[]}
use Rattle.stack_ends.proofs.SpeakLaws.{shut, open_full}
use Rattle.stack_ends.proofs.send.is_finished.Goals as goal

pub returns-in-Closed-clause-finished : goal.returns-in-Closed-clause-finished
returns-in-Closed-clause-finished c = λ s S. shut s [] c.give.result (c.give.ensures.answer s S) c.in-Closed.is

pub returns-in-Full-clause-finished : goal.returns-in-Full-clause-finished
returns-in-Full-clause-finished c = λ s S. open_full s [] c.give.result (c.give.ensures.answer s S) c.in-Full.is
