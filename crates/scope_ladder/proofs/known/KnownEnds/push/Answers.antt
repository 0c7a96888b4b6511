use Rattle.scope_ladder.proofs.KnownLaws.{pairs_more}
use Rattle.scope_ladder.proofs.known.KnownEnds.push.Goals as goal

pub invariant_of-self-2 : goal.invariant_of-self-2
invariant_of-self-2 c =
    rw (c.push_reserved.ensures.items, c.in_ok-reserve.ensures.items)
    (pairs_more c.self.inside.pairs.keys c.insert.new.self.keys c.self.inside.ends.items c.args.ends c.self.invariant
    (rw (← c.sorted.ensures) c.in_ok-insert.ensures.updates.0))
