use Rattle.std.specs.Prelude.{◌++◌, codes}
use Rattle.book_scope_plan.specs.WayTexts.{obstacle_text}
use Rattle.plan_texts.proofs.Parts.{four}
use Rattle.scope_plan.proofs.ways.push_stuck.Goals as goal

pub returns : goal.returns
returns c =
    four c.args.out.now.items (codes "    moving ") c.args.change.now (codes " won't do: ") (obstacle_text c.args.obstacle ++ codes "\n")
    c.extend_from_slice.new.self.items c.extend_from_slice-2.new.self.items c.extend_from_slice-3.new.self.items _
    c.in_ok-extend_from_slice.ensures.items c.in_ok-extend_from_slice-2.ensures.items c.in_ok-extend_from_slice-3.ensures.items
    c.in_ok-push_obstacle_end.ensures
