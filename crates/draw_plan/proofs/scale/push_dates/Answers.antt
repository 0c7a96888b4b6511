use Rattle.std.proofs.Common.{◌++◌, ◌-◌, arith}
use Rattle.page_draw_plan_svg.specs.PlanPictures.{dates_svg}
use Rattle.draw_plan.proofs.DateWalk.{no_date, one_step}
use Rattle.draw_plan.proofs.scale.push_dates.Goals as goal

pub returns-then-at-last : goal.returns-then-at-last
returns-then-at-last c =
    no_date c.args.line c.args.time.now c.args.unit c.loop-done.out.items
    (c.args.out.now.items ++ dates_svg c.args.line c.args.time.now c.args.unit c.args.count c.args.from)
    (c.args.count - c.loop-done._done) c.loop-done.at (omega (arith, c.if-at-last.true, c.min-last.ensures)) c.loop-done.invariant

pub loop-done-preserved : goal.loop-done-preserved
loop-done-preserved c =
    rw c.unit_step-step.ensures.value
    (one_step c.args.line c.args.time.now c.args.unit c.loop-done.out.items c.push_time.new.out.items
    (c.args.out.now.items ++ dates_svg c.args.line c.args.time.now c.args.unit c.args.count c.args.from)
    c.args.count c.loop-done._done c.loop-done.at (omega (arith, c.loop-done-test.true)) (omega (arith, c.if-at-last.false, c.min-last.ensures))
    c.in_ok-push_time.ensures c.loop-done.invariant)
