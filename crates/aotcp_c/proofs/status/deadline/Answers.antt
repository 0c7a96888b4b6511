use Rattle.book_stack.specs.Stacks.{next_deadline}
use Rattle.aotcp_c.proofs.AnswerLaws.{nothing_due, something_due}
use Rattle.aotcp_c.proofs.status.deadline.Goals as goal

pub returns-in-None-clause-told : goal.returns-in-None-clause-told
returns-in-None-clause-told c = λ s at. nothing_due (next_deadline s) c.next_deadline.result c.args.at.now c.in-None.is (c.next_deadline.ensures s at.counts at.stands)

pub returns-in-Some-clause-told : goal.returns-in-Some-clause-told
returns-in-Some-clause-told c = λ s at. something_due (next_deadline s) c.next_deadline.result c.in-Some.deadline c.in-Some.is (c.next_deadline.ensures s at.counts at.stands)
