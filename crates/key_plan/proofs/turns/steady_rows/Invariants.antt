use Rattle.std.proofs.Common.{ℕ, ◌≤◌, ◌<◌, get_or}
use Rattle.book_keys.specs.Rows.{Row}
use Rattle.book_plans.specs.Calendar.{Keeps}
use Rattle.key_plan.proofs.turns.steady_rows.Given as goal

abbrev pub invariant-loop-row : goal.invariant-loop-row
invariant-loop-row l = record {
  above : l.time ≤ l.until;
  below : l.until ≤ l.to;
  steady : (t : ℕ) → l.time ≤ t → t < l.until → (k : ℕ) (d : Row) → k < l.row-index → Keeps t (get_or l.rows k d);
}
