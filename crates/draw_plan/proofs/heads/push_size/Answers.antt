use Rattle.std.proofs.Common.{◌++◌}
use Rattle.std.specs.Prelude.{codes, decimal}
use Rattle.page_draw_plan_svg.specs.PlanPictures.{plan_size}
use Rattle.plan_texts.proofs.Parts.{four}
use Rattle.draw_plan.proofs.heads.push_size.Goals as goal

pub returns : goal.returns
unfolding plan_size
returns c =
    four c.args.out.now.items (codes "<svg xmlns=\"http://www.w3.org/2000/svg\" width=\"" ++ decimal c.args.width) (codes "\" height=\"" ++ decimal c.args.height)
    (codes "\" viewBox=\"0 0 " ++ decimal c.args.width) (codes " " ++ decimal c.args.height)
    c.push_numbered.new.out.items c.push_numbered-2.new.out.items c.push_numbered-3.new.out.items _
    c.in_ok-push_numbered.ensures c.in_ok-push_numbered-2.ensures c.in_ok-push_numbered-3.ensures c.in_ok-push_numbered-4.ensures
