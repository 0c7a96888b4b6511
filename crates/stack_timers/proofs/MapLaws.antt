-- A timer that is written in the place of another is found there, and all others stay.
use Rattle.std.proofs.Common.{◌≡◌, true, Some}
use Rattle.std.specs.Prelude.{is_some, if◌then◌else◌}
use Rattle.book_base.specs.declared.address.Pair.{Pair}
use Rattle.book_cmd_node.specs.NodeRuns.{same_pair}
use Rattle.law_node.proofs.PairMaps.{set_finds}
use Rattle.stack_timers.specs.declared.watch.Watch.{Watch}
use Rattle.stack_timers.specs.Timers.{Timing, watch_at}
use Rattle.stack_timers.specs.Loans.{written}

-- what is written for a pair that has a timer is found there, and all others stay
pub written_finds : (n : Timing) (p q : Pair) (w : Watch) → is_some (watch_at n p) ≡ true → watch_at (written p n w) q ≡ (if same_pair p q then Some w else watch_at n q)
written_finds n p q w e = set_finds p q w n.entries e
