use Rattle.std.proofs.Common.{◌≡◌, ◌++◌, drop}
use Rattle.book_keys.specs.Plans.{send_lifetimes}
use Rattle.key_plan.proofs.gaps.send_lifetimes.Given as goal

abbrev pub invariant-loop-row : goal.invariant-loop-row
invariant-loop-row l = l.lifetimes.items ++ send_lifetimes (drop l.row-index l.rows) l.pair ≡ send_lifetimes l.rows l.pair
