use Rattle.std.proofs.Common.{arith}
use Rattle.stack_timers.proofs.IndexLaws.{roomier}
use Rattle.stack_timers.proofs.KeptLaws.{pair_first}
use Rattle.stack_timers.proofs.line.Line.take_first.Goals as goal

pub invariant_of-self-2 : goal.invariant_of-self-2
invariant_of-self-2 c =
    rw c.remove-standing.ensures.removed
    (roomier _ _ _ _ (omega (arith, c.in_ok-pair.ensures.capacity))
    (pair_first _ c.self.inside.standing c.self.inside.items.items c.pop_front.new.self.items c.in_ok-pair.pair c.len-count.ensures.sound c.self.invariant c.in_ok-pair.ensures.items))
