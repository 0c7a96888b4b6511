use Rattle.std.proofs.Common.{◌++◌, replicate}
use Rattle.draw_ladder.proofs.Walks.{one_time}
use Rattle.draw_ladder.proofs.lines.push_times.Goals as goal

pub loop-done-preserved : goal.loop-done-preserved
loop-done-preserved c =
    one_time c.loop-done.out.items c.push.new.self.items (c.args.out.now.items ++ replicate c.args.count c.args.byte) c.args.byte c.args.count c.loop-done._done
    c.loop-done-test.true c.in_ok-push.ensures.items c.loop-done.invariant
