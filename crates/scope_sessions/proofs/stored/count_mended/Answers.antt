use Rattle.scope_sessions.proofs.stored.count_mended.Goals as goal

pub returns-clause-counts : goal.returns-clause-counts
returns-clause-counts g c = λ k knows. rw c.in_ok-count_unset.ensures at (c.count_judged.ensures.counts k knows)
