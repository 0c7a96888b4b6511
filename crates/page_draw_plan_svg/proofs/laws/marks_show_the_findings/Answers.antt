use Rattle.page_draw_plan_svg.proofs.SpanLaws.{finding_exactly}
use Rattle.page_draw_plan_svg.proofs.laws.marks_show_the_findings.Goals as goal

pub returns : goal.returns
returns c = finding_exactly
