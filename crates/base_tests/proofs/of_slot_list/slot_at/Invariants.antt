use Rattle.std.specs.Prelude.{IfSome}
use Rattle.stream_buffers.specs.Pool.{Holds}
use Rattle.base_tests.proofs.of_slot_list.slot_at.Given as goal

abbrev pub invariant-loop : goal.invariant-loop
invariant-loop g l = IfSome l.at (λ slot. Holds l.list.pairs slot)
