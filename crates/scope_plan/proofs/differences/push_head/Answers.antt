use Rattle.std.specs.Prelude.{codes}
use Rattle.book_scope_plan.specs.DifferenceTexts.{difference_head}
use Rattle.plan_texts.proofs.Parts.{three}
use Rattle.scope_plan.proofs.differences.push_head.Goals as goal

pub returns : goal.returns
unfolding difference_head
returns c =
    three c.args.out.now.items (codes "    ") c.args.name.now (codes " differs in ")
    c.extend_from_slice.new.self.items c.extend_from_slice-2.new.self.items _
    c.in_ok-extend_from_slice.ensures.items c.in_ok-extend_from_slice-2.ensures.items c.in_ok-extend_from_slice-3.ensures.items
