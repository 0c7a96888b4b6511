use Rattle.scope_sessions.proofs.Counting.{counts_on, found_within}
use Rattle.scope_sessions.proofs.count.count_packet.Goals as goal

pub count_found-requires : goal.count_found-requires
count_found-requires g c = found_within c.args.reader.now.packet c.frame.result.now c.datagram.result c.requires.shown c.frame.ensures c.datagram.ensures.ordered c.datagram.ensures.within

pub returns-clause-counts : goal.returns-clause-counts
returns-clause-counts g c = λ held p is stands.
    counts_on c.count_found.result _ held _ _ _ c.args.reader.now.packet p c.number.result c.time.result c.frame.result.now c.datagram.result is c.number.ensures c.time.ensures c.frame.ensures c.datagram.ensures.exact (c.count_found.ensures.counts held stands)
