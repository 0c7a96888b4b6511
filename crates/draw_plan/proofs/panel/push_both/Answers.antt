use Rattle.std.proofs.Common.{◌+◌, ◌++◌, [], ◌∷◌, map}
use Rattle.toml.specs.View.{table_view}
use Rattle.book_scope_plan.specs.BarOrders.{bars_of}
use Rattle.page_draw_plan_svg.specs.PlanLines.{Barred, Scale, both_lines, wrong_lines}
use Rattle.draw_plan.specs.Draws.{judged_of}
use Rattle.draw_plan.proofs.DrawsLaws.{bars_drawn, draws_one, draws_then}
use Rattle.draw_plan.proofs.panel.push_both.Goals as goal

pub returns-clause-drawn : goal.returns-clause-drawn
unfolding both_lines
returns-clause-drawn c =
    let document = table_view c.args.paper.now.document.now in
    let plan = c.args.paper.now.plan in
    let ends = c.args.ends.now in
    let out = c.args.out.now.items in
    let one = c.push_scale.new.out.items in
    let two = c.push_bars.new.out.items in
    let new = c.push_wrong_if.new.out.items in
    let line = c.args.line in
    let last = c.in_ok-last.last in
    let j = judged_of ends c.args.findings.now in
    let bars = map (Barred j) (bars_of j.a j.b j.pair plan) in
    draws_then document plan (Scale ∷ []) (bars ++ wrong_lines j) out line one (line + 1) new c.in_ok-next.next
    (draws_one document plan Scale out one line (rw c.plan_time.ensures at c.in_ok-push_scale.ensures))
    (draws_then document plan bars (wrong_lines j) one (line + 1) two last new c.in_ok-next.next
    (bars_drawn document plan ends c.args.findings.now (bars_of j.a j.b j.pair plan) one two (line + 1) last
    (rw (c.as_slice.ensures.value, c.in_ok-bars.ensures.bars) at c.in_ok-last.ensures.text) (rw (c.as_slice.ensures.value, c.in_ok-bars.ensures.bars) at c.in_ok-last.ensures.next))
    c.in_ok-next.ensures.drawn)
