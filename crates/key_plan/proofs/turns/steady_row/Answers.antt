use Rattle.std.proofs.Common.{arith}
use Rattle.key_plan.proofs.turns.steady_row.Goals as goal

pub returns-clause-steady : goal.returns-clause-steady
returns-clause-steady c =
    let below = c.steady_for.ensures.below in
    λ t x y. record {
      sending = rw c.sending-sending.ensures at (c.steady_for-until.ensures.steady t x (omega arith));
      accepting = rw c.accepting-accepting.ensures at (c.steady_for.ensures.steady t x y);
    }
