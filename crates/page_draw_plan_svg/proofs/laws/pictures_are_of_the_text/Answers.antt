use Rattle.page_draw_plan_svg.proofs.LineLaws.{all_texts}
use Rattle.page_draw_plan_svg.proofs.laws.pictures_are_of_the_text.Goals as goal

pub returns : goal.returns
returns c = all_texts
