use Rattle.std.proofs.Common.{arith}
use Rattle.scope_why.proofs.Keeping.{row_more}
use Rattle.scope_why.proofs.passes.push_rows.Goals as goal

pub loop-i-preserved : goal.loop-i-preserved
loop-i-preserved c =
    row_more c.args.node c.loop-i.i c.args.rows.now c.loop-i.out.items c.push.new.self.items _ (omega (arith, c.loop-i-test.true)) c.in_ok-push.ensures.items c.loop-i.invariant
