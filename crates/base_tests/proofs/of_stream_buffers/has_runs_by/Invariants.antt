use Rattle.std.specs.Prelude.{IfSome}
use Rattle.stream_buffers.specs.Pool.{Holds}
use Rattle.base_tests.proofs.of_stream_buffers.has_runs_by.Given as goal

abbrev pub invariant-loop-first : goal.invariant-loop-first
invariant-loop-first g l = IfSome l.at (λ slot. Holds l.pool.pairs slot)
