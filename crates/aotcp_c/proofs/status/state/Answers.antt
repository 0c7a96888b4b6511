use Rattle.book_cmd_node.specs.NodeRuns.{held_end}
use Rattle.aotcp_c.proofs.AnswerLaws.{nothing_stated, something_stated}
use Rattle.aotcp_c.proofs.status.state.Goals as goal

pub returns-in-None-front-clause-told : goal.returns-in-None-front-clause-told
returns-in-None-front-clause-told c = λ s at. rw (← c.pair_of.ensures.told, c.in-Some.is) (nothing_stated (held_end c.in-Some.pair s.node.ends) c.front.result c.args.told.now c.in-None-front.is (c.front.ensures s at.counts at.stands))

pub returns-in-Some-front-clause-told : goal.returns-in-Some-front-clause-told
returns-in-Some-front-clause-told c = λ s at. rw (← c.pair_of.ensures.told, c.in-Some.is, c.state_of.ensures) (something_stated (held_end c.in-Some.pair s.node.ends) c.front.result c.in-Some-front.front c.in-Some-front.is (c.front.ensures s at.counts at.stands))
