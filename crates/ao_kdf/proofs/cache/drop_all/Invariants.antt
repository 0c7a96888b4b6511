use Rattle.std.proofs.Common.{◌≡◌, None, replicate, take, length}
use Rattle.ao_kdf.proofs.cache.drop_all.Given as goal

abbrev pub invariant-loop-at : goal.invariant-loop-at
invariant-loop-at l = record {
  done : take l.at l.keys.items ≡ replicate l.at None;
  long : length l.keys.items ≡ length l.fn.keys.items;
}
