use Rattle.std.specs.Prelude.{codes}
use Rattle.book_scope_plan.specs.DifferenceTexts.{direction_name, wrong_direction_text}
use Rattle.plan_texts.proofs.Parts.{three}
use Rattle.scope_plan.proofs.columns.push_direction.Goals as goal

pub returns : goal.returns
unfolding wrong_direction_text
returns c =
    three c.args.out.now.items (codes "Direction: ") (direction_name c.args.direction) (codes " isn't for what comes in\n")
    c.extend_from_slice.new.self.items c.push_direction_name.new.out.items _
    c.in_ok-extend_from_slice.ensures.items c.in_ok-push_direction_name.ensures c.in_ok-extend_from_slice-2.ensures.items
