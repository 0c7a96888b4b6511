use Rattle.std.proofs.Common.{Option, subst, sym}
use Rattle.book_plans.proofs.MarginLaws.{lag_greatest}
use Rattle.book_plans.specs.declared.margin.Margin.{Margin}
use Rattle.book_plans.specs.Margins.{AlignedAtLag, IsMargin}
use Rattle.book_keys.specs.Plans.{rows_at}
use Rattle.key_plan.proofs.margin.lag_margin.Goals as goal

pub returns-clause-greatest : goal.returns-clause-greatest
returns-clause-greatest c =
    let a = rows_at c.args.tables.now c.args.pair.now.local.address in
    let b = rows_at c.args.tables.now c.args.pair.now.remote.address in
    λ at_a at_b.
    subst (λ (m : Option Margin). IsMargin (AlignedAtLag a b c.args.pair.now c.args.lead) m) (sym c.margin_of_plan.ensures)
    (lag_greatest a b c.args.pair.now c.args.lead at_a at_b)
