use Rattle.std.proofs.Common.{arith}
use Rattle.tcp_segment.proofs.datagram.datagram_at.Goals as goal

pub invariant_of-result : goal.invariant_of-result
invariant_of-result c = c.requires (λ i. omega (arith, c.type_inv.bytes i))
