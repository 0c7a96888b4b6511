use Rattle.std.proofs.Common.{◌≡◌, ◌++◌, drop}
use Rattle.std.specs.Prelude.{flat_map}
use Rattle.page_draw_plan_svg.specs.PlanPictures.{finding_svg}
use Rattle.draw_plan.specs.Draws.{judged_of}
use Rattle.draw_plan.proofs.marks.push_marks.Given as goal

abbrev pub invariant-loop-finding : goal.invariant-loop-finding
invariant-loop-finding l =
    l.out.items ++ flat_map (finding_svg l.line l.time (judged_of l.ends l.findings)) (drop l.finding-index l.findings)
    ≡ l.fn.out.items ++ flat_map (finding_svg l.line l.time (judged_of l.ends l.findings)) l.findings
