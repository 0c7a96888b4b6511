-- A timer is lent, and written (own).
use Rattle.std.specs.Prelude.{Option}
use Rattle.std.specs.Borrow.{LendsIf, MutBor, Fml}
use Rattle.std.specs.Map.{set_value}
use Rattle.std.specs.BTreeMap.{is_at}
use Rattle.book_base.specs.declared.address.Pair.{Pair}
use Rattle.book_base.specs.Orders.{by_pair}
use Rattle.stack_timers.specs.declared.watch.Watch.{Watch}
use Rattle.stack_timers.specs.contracts.watch.Watch.{the_row as watch_row}
use Rattle.stack_timers.specs.contracts.watches.Watches.{the_row}
use Rattle.stack_timers.specs.Timers.{Timing}

-- the timers with this one in the place of the pair's (own)
abbrev pub written : Pair → Timing → Watch → Timing
written pair t w = record { entries = set_value (is_at (by_pair pair)) t.entries w }

-- the timers after the loan have what was written for the pair, and all else as before (own)
abbrev pub LendsWatch : MutBor Timing → Pair → Option (MutBor Watch) → Fml
LendsWatch s pair r = LendsIf the_row watch_row s r (written pair s.now) s.now
