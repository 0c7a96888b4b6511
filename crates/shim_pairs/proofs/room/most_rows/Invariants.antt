use Rattle.std.proofs.Common.{◌≡◌, drop}
use Rattle.shim_pairs.specs.Holdings.{larger, room_of}
use Rattle.shim_pairs.proofs.room.most_rows.Given as goal

abbrev pub invariant-loop-n : goal.invariant-loop-n
invariant-loop-n l = larger l.most (room_of (drop l.n l.tables)) ≡ room_of l.fn.tables
