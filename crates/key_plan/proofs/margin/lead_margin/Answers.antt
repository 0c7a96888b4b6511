use Rattle.std.proofs.Common.{Option, subst, sym}
use Rattle.book_plans.proofs.MarginLaws.{lead_greatest}
use Rattle.book_plans.specs.declared.margin.Margin.{Margin}
use Rattle.book_plans.specs.Margins.{AlignedAtLead, IsMargin}
use Rattle.book_keys.specs.Plans.{rows_at}
use Rattle.key_plan.proofs.margin.lead_margin.Goals as goal

pub returns-clause-greatest : goal.returns-clause-greatest
returns-clause-greatest c =
    let a = rows_at c.args.tables.now c.args.pair.now.local.address in
    let b = rows_at c.args.tables.now c.args.pair.now.remote.address in
    λ at_a at_b.
    subst (λ (m : Option Margin). IsMargin (AlignedAtLead a b c.args.pair.now c.args.lag) m) (sym c.margin_of_plan.ensures)
    (lead_greatest a b c.args.pair.now c.args.lag at_a at_b)
