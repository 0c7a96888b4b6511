use Rattle.std.specs.Prelude.{IfSome}
use Rattle.stream_buffers.specs.Pool.{Holds}
use Rattle.base_tests.proofs.of_slot_list.reads_back.Given as goal

abbrev pub invariant-loop-item : goal.invariant-loop-item
invariant-loop-item g l = IfSome l.at (λ slot. Holds l.list.pairs slot)
