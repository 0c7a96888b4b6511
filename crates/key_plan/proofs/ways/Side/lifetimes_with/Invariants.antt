use Rattle.std.proofs.Common.{◌≡◌, ◌+◌, ◌++◌, drop}
use Rattle.book_keys.specs.Plans.{send_lifetimes}
use Rattle.book_plans.specs.Ways.{changed_row, sending_in}
use Rattle.key_plan.proofs.ways.Side.lifetimes_with.Given as goal

abbrev pub invariant-loop-i : goal.invariant-loop-i
invariant-loop-i l =
    l.lifetimes.items ++ send_lifetimes (changed_row (sending_in l.sending) l.number (l.i + 1) (drop l.i l.self.rows.now)) l.self.pair
    ≡ send_lifetimes (changed_row (sending_in l.sending) l.number 1 l.self.rows.now) l.self.pair
