use Rattle.scope_sessions.specs.Counting.{stored_at}
use Rattle.scope_sessions.proofs.Counting.{stored_on}
use Rattle.scope_sessions.proofs.stored.count_judged.Goals as goal

pub returns-clause-counts : goal.returns-clause-counts
returns-clause-counts g c = λ k knows.
    stored_on c.count.result c.args.listener.now.judging k c.hear.new.listener c.args.index.now c.count.new.self (stored_at c.args.packet c.args.time c.args.bytes.now) c.in_ok-seen.seen
    (c.in_ok-seen.ensures.heard k knows) c.count.ensures.counted
