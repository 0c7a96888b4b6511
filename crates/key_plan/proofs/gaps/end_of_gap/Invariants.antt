use Rattle.std.proofs.Common.{◌≡◌, ℕ, ◌+◌, ◌≤◌, ◌<◌, true, false, take}
use Rattle.book_keys.specs.Lifetimes.{is_covered}
use Rattle.key_plan.proofs.gaps.end_of_gap.Given as goal

abbrev pub invariant-loop-lifetime : goal.invariant-loop-lifetime
invariant-loop-lifetime l = record {
  above : l.time ≤ l.end;
  below : l.end ≤ l.to;
  free : (t : ℕ) → l.time ≤ t → t ≤ l.end → is_covered (take l.lifetime-index l.lifetimes) t ≡ false;
  covered : l.end < l.to → is_covered l.lifetimes (l.end + 1) ≡ true;
}
