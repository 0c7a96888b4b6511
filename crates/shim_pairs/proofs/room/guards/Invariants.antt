use Rattle.std.proofs.Common.{◌≡◌, length}
use Rattle.shim_pairs.specs.Holdings.{HaveRoom}
use Rattle.shim_pairs.proofs.room.guards.Given as goal

abbrev pub invariant-loop : goal.invariant-loop
invariant-loop l = (length l.guards.items ≡ l.counter) × HaveRoom l.rows l.guards.items
