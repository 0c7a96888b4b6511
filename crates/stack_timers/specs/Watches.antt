-- What the timer of a connection stands for (own).
use Rattle.std.specs.Prelude.{ℕ}
use Rattle.book_stack.specs.Watches as book
use Rattle.stack_timers.specs.declared.watch.Watch.{Watch}

-- the last millisecond of the year 9999, since 1970 (own)
abbrev pub latest : ℕ
latest = 253402300799999

-- the timer of a connection, as the definitions have it (own)
abbrev pub seen : Watch → book.ConnectionWatch
seen w = record {
  timer = w.timer;
  deadline = w.deadline;
  timed = w.timed;
  syn_again = w.syn_again;
  heard = w.heard;
}
