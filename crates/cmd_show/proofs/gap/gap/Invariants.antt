use Rattle.std.proofs.Common.{◌≡◌, ◌≤◌, ◌++◌, length, take, drop}
use Rattle.book_keys.specs.Plans.{send_lifetimes}
use Rattle.cmd_show.proofs.gap.gap.Given as goal

abbrev pub invariant-loop-row : goal.invariant-loop-row
invariant-loop-row l = record {
  room : l.count ≤ l.row-index;
  long : length l.lifetimes ≡ 64;
  so_far : take l.count l.lifetimes ++ send_lifetimes (drop l.row-index l.rows) l.pair ≡ send_lifetimes l.rows l.pair;
}
