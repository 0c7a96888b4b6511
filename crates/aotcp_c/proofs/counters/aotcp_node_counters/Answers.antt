use Rattle.std.proofs.Common.{rules}
use Rattle.aotcp_c.proofs.AnswerLaws.{node_told}
use Rattle.aotcp_c.proofs.counters.aotcp_node_counters.Goals as goal

pub returns-in-Some-clause-told : goal.returns-in-Some-clause-told
returns-in-Some-clause-told c =
    node_told _ _ c.in-Some.b.value c.in-Some.b.value c.node_counters-code.result c.node_counters-code.new.told (search rules) (search rules) (search rules)
