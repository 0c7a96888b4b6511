use Rattle.book_cmd_node.specs.NodeRuns.{held_end}
use Rattle.aotcp_c.proofs.TallyLaws.{nothing_told, something_told}
use Rattle.aotcp_c.proofs.counters.counters.Goals as goal

pub returns-in-None-counters-clause-told : goal.returns-in-None-counters-clause-told
returns-in-None-counters-clause-told c = λ s n stands. rw (← c.pair_of.ensures.told, c.in-Some.is) (nothing_told (n.pairs c.in-Some.pair) (held_end c.in-Some.pair s.node.ends) c.counters.result c.args.told.now c.in-None-counters.is (c.counters.ensures.tally s n stands) (c.counters.ensures.held s n stands))

pub returns-in-Some-counters-clause-told : goal.returns-in-Some-counters-clause-told
returns-in-Some-counters-clause-told c = λ s n stands. rw (← c.pair_of.ensures.told, c.in-Some.is, c.told_counters.ensures) (something_told (n.pairs c.in-Some.pair) (held_end c.in-Some.pair s.node.ends) c.counters.result c.in-Some-counters.tally c.in-Some-counters.is (c.counters.ensures.tally s n stands) (c.counters.ensures.held s n stands))
