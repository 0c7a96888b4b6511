use Rattle.std.specs.Prelude.{codes}
use Rattle.book_scope_plan.specs.DifferenceTexts.{direction_name}
use Rattle.book_scope_plan.specs.WayTexts.{kept_line}
use Rattle.plan_texts.proofs.Parts.{five}
use Rattle.scope_plan.proofs.gap.push_kept_line.Goals as goal

pub returns : goal.returns
unfolding kept_line
returns c =
    five c.args.out.now.items (codes "    ") c.args.name.now (codes " isn't for sending: its Direction is ") (direction_name c.args.direction) (codes "\n")
    c.extend_from_slice.new.self.items c.extend_from_slice-2.new.self.items c.extend_from_slice-3.new.self.items c.push_direction_name.new.out.items _
    c.in_ok-extend_from_slice.ensures.items c.in_ok-extend_from_slice-2.ensures.items c.in_ok-extend_from_slice-3.ensures.items c.in_ok-push_direction_name.ensures c.in_ok-extend_from_slice-4.ensures.items
