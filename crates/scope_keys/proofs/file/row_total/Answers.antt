use Rattle.std.proofs.Common.{arith}
use Rattle.scope_keys.proofs.FileLaws.{total_done, total_more}
use Rattle.scope_keys.proofs.file.row_total.Goals as goal

pub loop-i-preserved : goal.loop-i-preserved
loop-i-preserved c = (
  total_more c.args.tables.now c.loop-i.i c.node.result.now c.loop-i.total c.row_count-total.result (omega (arith, c.loop-i-test.true, c.nodes-i-end.ensures.value)) c.node.ensures c.row_count-total.ensures.value c.loop-i.invariant.0,
  omega (arith, c.loop-i.invariant.1, c.row_count-total.ensures.limit),
)

pub returns : goal.returns
returns c = total_done c.args.tables.now c.loop-i.i c.loop-i.total (omega (arith, c.loop-i-test.false, c.nodes-i-end.ensures.value)) c.loop-i.invariant.0
