use Rattle.page_draw_plan_svg.proofs.SpanLaws.{span_exactly}
use Rattle.page_draw_plan_svg.proofs.laws.bars_show_the_rows.Goals as goal

pub returns : goal.returns
returns c = span_exactly
