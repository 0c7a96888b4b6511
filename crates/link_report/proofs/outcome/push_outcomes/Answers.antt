use Rattle.std.proofs.Common.{◌≡◌, ◌<◌, length, arith}
use Rattle.link_report.proofs.OutcomeLaws.{all_written, one_more}
use Rattle.link_report.proofs.outcome.push_outcomes.Goals as goal

pub loop-index-preserved : goal.loop-index-preserved
loop-index-preserved c = λ told h.
    let low : c.loop-index.index < length c.args.outcomes.now = omega arith in
    one_more c.args.outcomes.now told c.loop-index.index c.index-outcomes-index.result c.loop-index.out.items c.push_line.new.out.items _ h low
    c.index-outcomes-index.is c.in_ok-push_line.ensures (c.loop-index.invariant told h)

pub returns : goal.returns
returns c = λ told h.
    let end : c.loop-index.index ≡ length c.args.outcomes.now = omega arith in
    all_written c.args.outcomes.now told c.loop-index.index c.loop-index.out.items _ h end (c.loop-index.invariant told h)
