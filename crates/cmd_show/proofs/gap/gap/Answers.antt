use Rattle.std.proofs.Common.{take}
use Rattle.cmd_show.proofs.JudgementLaws.{all_kept, gap_told}
use Rattle.cmd_show.proofs.gap.gap.Goals as goal

pub returns : goal.returns
returns c =
    let kept = take c.loop-row.count c.loop-row.lifetimes in
    let all = all_kept kept c.args.rows.now c.loop-row.row-index c.args.pair.now c.loop-row-test.false c.loop-row.invariant.so_far in
    gap_told _ c.args.rows.now c.args.pair.now c.args.from c.args.to c.first_gap.result all c.first_gap.ensures.some c.first_gap.ensures.none
