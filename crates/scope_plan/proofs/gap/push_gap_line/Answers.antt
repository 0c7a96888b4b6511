use Rattle.std.specs.Prelude.{codes}
use Rattle.book_scope_plan.specs.FindingTexts.{seconds_text, times_text}
use Rattle.book_scope_plan.specs.WayTexts.{gap_line}
use Rattle.plan_texts.proofs.Parts.{five}
use Rattle.scope_plan.proofs.gap.push_gap_line.Goals as goal

pub returns : goal.returns
unfolding gap_line
returns c =
    five c.args.out.now.items (codes "  WRONG ") c.args.name.now (codes " has no row to send with from ")
    (times_text c.args.gap.first c.args.gap.last) (seconds_text c.args.gap.first c.args.gap.last)
    c.extend_from_slice.new.self.items c.extend_from_slice-2.new.self.items c.extend_from_slice-3.new.self.items c.push_times.new.out.items _
    c.in_ok-extend_from_slice.ensures.items c.in_ok-extend_from_slice-2.ensures.items c.in_ok-extend_from_slice-3.ensures.items
    c.in_ok-push_times.ensures c.in_ok-push_seconds.ensures
