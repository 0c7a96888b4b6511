use Rattle.scope_keys.proofs.FileLaws.{no_node, one_node}
use Rattle.scope_keys.proofs.nodes.push_each_node.Goals as goal

pub loop-i-preserved : goal.loop-i-preserved
loop-i-preserved c =
    one_node c.loop-i.seen.names.items c.loop-i.seen.addresses.items c.add.new.self.names.items c.add.new.self.addresses.items c.loop-i.findings.items c.push_node.new.findings.items _ c.args.values.now c.loop-i.i c.index-values-i.result
    c.loop-i-test.true c.index-values-i.is c.in_ok-add.ensures.names c.in_ok-add.ensures.addresses c.in_ok-push_node.ensures c.loop-i.invariant

pub returns : goal.returns
returns c = no_node c.loop-i.seen.names.items c.loop-i.seen.addresses.items c.loop-i.findings.items _ c.args.values.now c.loop-i.i c.loop-i-test.false c.loop-i.invariant
