use Rattle.std.proofs.Common.{◌≡◌, ◌++◌, length, take, drop, map}
use Rattle.cmd_show.specs.Unmet.{hears}
use Rattle.cmd_show.proofs.way.Way.hearing.Given as goal

abbrev pub invariant-loop-i : goal.invariant-loop-i
invariant-loop-i l = record {
  long : length l.hearing ≡ 64;
  so_far : take l.i l.hearing ++ map (hears l.self.pair) (drop l.i l.self.others.now) ≡ map (hears l.self.pair) l.self.others.now;
}
