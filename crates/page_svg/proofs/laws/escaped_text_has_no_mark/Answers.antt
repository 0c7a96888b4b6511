use Rattle.page_svg.proofs.Escapes.{all_plain}
use Rattle.page_svg.proofs.laws.escaped_text_has_no_mark.Goals as goal

pub returns : goal.returns
returns c = all_plain
