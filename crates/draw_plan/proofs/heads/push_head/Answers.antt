use Rattle.std.proofs.Common.{List, ℕ, ◌++◌, ap, ◌∙◌, append_assoc}
use Rattle.std.specs.Prelude.{codes}
use Rattle.page_draw_plan_svg.specs.PlanPictures.{plan_head, plan_size}
use Rattle.page_svg.specs.Tags.{style_svg}
use Rattle.draw_plan.proofs.heads.push_head.Goals as goal

pub returns : goal.returns
unfolding plan_head
returns c =
    let size = plan_size c.args.width c.args.height in
    let look = codes "\" font-family=\"monospace\" font-size=\"12\" stroke-width=\"1.5\">\n" in
    let before = c.args.out.now.items in
    c.in_ok-push_style.ensures
    ∙ ap (λ (x : List ℕ). x ++ style_svg) (c.in_ok-extend_from_slice.ensures.items ∙ ap (λ (x : List ℕ). x ++ look) c.in_ok-push_size.ensures)
    ∙ append_assoc (before ++ size) look style_svg ∙ append_assoc before size (look ++ style_svg)
