use Rattle.std.proofs.Common.{◌≡◌, ◌++◌, ◌-◌}
use Rattle.page_draw_plan_svg.specs.PlanPictures.{dates_svg}
use Rattle.draw_plan.proofs.scale.push_dates.Given as goal

abbrev pub invariant-loop-done : goal.invariant-loop-done
invariant-loop-done l =
    l.out.items ++ dates_svg l.line l.time l.unit (l.count - l._done) l.at ≡ l.fn.out.items ++ dates_svg l.line l.time l.unit l.count l.from
