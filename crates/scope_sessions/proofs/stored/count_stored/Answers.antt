use Rattle.std.proofs.Common.{◌∙◌}
use Rattle.scope_sessions.proofs.Counting.{mended_on, whole_on}
use Rattle.scope_sessions.proofs.stored.count_stored.Goals as goal

pub returns-in-None-clause-counts : goal.returns-in-None-clause-counts
returns-in-None-clause-counts g c = λ k knows.
    whole_on c.count_judged.result c.args.listener.now.judging k c.count_judged.new.listener c.args.index.now c.count_judged.new.index c.args.packet c.args.time c.args.bytes.now
    (rw c.in-None.is at c.in_ok-found.ensures) (c.count_judged.ensures.counts k knows)

pub returns-in-Some-clause-counts : goal.returns-in-Some-clause-counts
returns-in-Some-clause-counts g c = λ k knows.
    let h = rw c.in-Some.is at c.in_ok-found.ensures in
    mended_on c.count_mended.result c.args.listener.now.judging k c.count_mended.new.listener c.args.index.now c.count_mended.new.index c.args.packet c.args.time c.args.bytes.now c.as_slice.result.now
    h.0 (c.as_slice.ensures.value ∙ h.1) (c.count_mended.ensures.counts k knows)
