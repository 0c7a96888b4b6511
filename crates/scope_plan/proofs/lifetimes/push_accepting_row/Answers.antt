use Rattle.std.specs.Prelude.{codes, decimal}
use Rattle.book_scope_plan.specs.FindingTexts.{accepting_row}
use Rattle.plan_texts.proofs.Parts.{four}
use Rattle.scope_plan.proofs.lifetimes.push_accepting_row.Goals as goal

pub returns : goal.returns
unfolding accepting_row
returns c =
    four c.args.out.now.items (codes "    ") c.args.name.now (codes " accepts its row ") (decimal c.args.number)
    c.extend_from_slice.new.self.items c.extend_from_slice-2.new.self.items c.extend_from_slice-3.new.self.items _
    c.in_ok-extend_from_slice.ensures.items c.in_ok-extend_from_slice-2.ensures.items c.in_ok-extend_from_slice-3.ensures.items
    c.in_ok-push_number.ensures
