use Rattle.std.proofs.Common.{◌≡◌, ◌≤◌, ◌++◌, length, take, drop}
use Rattle.book_sessions.specs.Retiring.{lifetimes_left}
use Rattle.capture_listener.specs.Gone.{goes_with}
use Rattle.capture_listener.proofs.left.leaves_rows.Given as goal

abbrev pub invariant-loop-row : goal.invariant-loop-row
invariant-loop-row l = record {
  room : l.count ≤ l.row-index;
  long : length l.lifetimes ≡ 64;
  so_far : take l.count l.lifetimes ++ lifetimes_left (goes_with l.going l.one) (drop l.row-index l.rows) l.pair ≡ lifetimes_left (goes_with l.going l.one) l.rows l.pair;
}
