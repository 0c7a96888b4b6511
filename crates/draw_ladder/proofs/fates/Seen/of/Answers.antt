use Rattle.std.proofs.Common.{◌-◌, length, drop}
use Rattle.draw_ladder.proofs.Walks.{from_the_end}
use Rattle.draw_ladder.proofs.fates.Seen.of.Goals as goal

pub loop-done-preserved : goal.loop-done-preserved
loop-done-preserved c =
    from_the_end c.args.rungs.now c.see.new.self c.loop-done.done c.rung_at.result c.loop-done-test.true c.rung_at.ensures
    (c.in_ok-see.ensures (drop (length c.args.rungs.now - c.loop-done.done) c.args.rungs.now) c.loop-done.invariant)
