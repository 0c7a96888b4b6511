use Rattle.std.proofs.Common.{ap, ◌∙◌}
use Rattle.ao_check.specs.Bonds.{Bond}
use Rattle.capture_check.proofs.AloneLaws.{alone_counts}
use Rattle.capture_check.proofs.judgement.judge_alone.Goals as goal

pub returns-clause-counts : goal.returns-clause-counts
returns-clause-counts g c =
    let k = c.check.ensures in
    let a = c.in_ok-association.ensures.fresh in
    let peer = ap (λ (b : Bond). b.peer) k.same ∙ ap (λ (b : Bond). b.peer) a in
    alone_counts c.args.table.now.rows c.args.time c.args.datagram.now c.in_ok-association.association c.check.new.self _ c.args.steps.now c.check.new.steps k.fits peer (ap (λ (b : Bond). b.pair) a ∙ c.pair_at-pair.ensures) k.counted
