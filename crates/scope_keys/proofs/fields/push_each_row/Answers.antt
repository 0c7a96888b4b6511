use Rattle.scope_keys.proofs.FileLaws.{no_row, one_row}
use Rattle.scope_keys.proofs.fields.push_each_row.Goals as goal

pub loop-i-preserved : goal.loop-i-preserved
loop-i-preserved c =
    one_row c.args.node.now.number c.args.node.now.called c.loop-i.findings.items c.push_one_row.new.findings.items _ c.args.values.now c.loop-i.i c.index-values-i.result
    c.loop-i-test.true c.index-values-i.is c.in_ok-push_one_row.ensures c.loop-i.invariant

pub returns : goal.returns
returns c = no_row c.args.node.now.number c.args.node.now.called c.loop-i.findings.items _ c.args.values.now c.loop-i.i c.loop-i-test.false c.loop-i.invariant
