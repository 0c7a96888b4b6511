use Rattle.std.proofs.Common.{ℕ, inl, inr, subst, arith, get_or, ◌≡◌, ◌<◌}
use Rattle.std.proofs.lemmas.Bool.{cases_lt}
use Rattle.std.proofs.lemmas.List.{get_or_read}
use Rattle.book_keys.specs.Rows.{Row}
use Rattle.book_plans.specs.Calendar.{Keeps}
use Rattle.key_plan.proofs.turns.steady_rows.Goals as goal

pub loop-row-preserved : goal.loop-row-preserved
loop-row-preserved c =
    let above = c.steady_row-until.ensures.above in
    let below = c.steady_row-until.ensures.below in
    record {
      above = omega arith;
      below = omega arith;
      steady = λ t x y k d low. elim (cases_lt k c.loop-row.row-index) [
        | inl lt ↦ c.loop-row.invariant.steady t x (omega arith) k d lt
        | inr ge ↦
            let same : c.loop-row.row-index ≡ k = omega arith in
            let read = get_or_read c.args.rows.now c.loop-row.row-index c.row-item.result c.loop-row-test.true c.row-item.is d in
            subst (λ (i : ℕ). Keeps t (get_or c.args.rows.now i d)) same
            (subst (λ (r : Row). Keeps t r) read (c.steady_row-until.ensures.steady t x y))
      ];
    }
