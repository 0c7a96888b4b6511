use Rattle.std.proofs.Common.{arith}
use Rattle.book_cmd_link.specs.KeyTexts.{nodes_lines}
use Rattle.cmd_show.proofs.KeyLaws.{one_more_node}
use Rattle.cmd_show.proofs.told_keys.keys_text.Goals as goal

pub loop-i-preserved : goal.loop-i-preserved
loop-i-preserved c =
    one_more_node c.args.time c.loop-i.i c.args.tables.now c.node.result.now c.loop-i.out.items c.push_node.new.out.items
    (nodes_lines c.args.time 1 c.args.tables.now) (omega (arith, c.loop-i-test.true, c.nodes-i-end.ensures.value)) c.node.ensures
    c.loop-i.invariant c.in_ok-push_node.ensures
