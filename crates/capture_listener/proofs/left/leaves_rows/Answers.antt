use Rattle.std.proofs.Common.{take}
use Rattle.capture_listener.specs.Gone.{goes_with}
use Rattle.capture_listener.proofs.LeftLaws.{all_left_kept, rows_by}
use Rattle.capture_listener.proofs.left.leaves_rows.Goals as goal

pub returns : goal.returns
returns c =
    let gone = goes_with c.args.going c.args.one.now in
    let kept = take c.loop-row.count c.loop-row.lifetimes in
    let all = all_left_kept gone kept c.args.rows.now c.loop-row.row-index c.args.pair.now c.loop-row-test.false c.loop-row.invariant.so_far in
    rows_by gone kept c.args.rows.now c.args.pair.now c.args.from c.are_replaced.result all c.are_replaced.ensures
