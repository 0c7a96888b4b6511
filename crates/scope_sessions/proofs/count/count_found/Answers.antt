use Rattle.scope_sessions.proofs.Counting.{found_on, stored_found}
use Rattle.scope_sessions.proofs.count.count_found.Goals as goal

pub returns-in-Some-clause-counts : goal.returns-in-Some-clause-counts
returns-in-Some-clause-counts g c = λ held stands.
    let h = rw c.in-Ok.is at c.requires in
    found_on c.count_stored.result c.args.listener.now.judging held c.count_stored.new.listener c.args.index.now c.count_stored.new.index _ _ (stored_found c.args.packet c.in-Some.time c.args.time c.args.frame.now c.in-Ok.datagram c.args.found c.judged.result.now c.in-Some.is c.in-Ok.is h.0 c.judged.ensures) (c.count_stored.ensures.counts held stands)
