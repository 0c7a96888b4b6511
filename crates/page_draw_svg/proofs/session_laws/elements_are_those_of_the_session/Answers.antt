use Rattle.page_draw_svg.proofs.SvgElements.{each_line, each_row, whole_picture, whole_text}
use Rattle.page_draw_svg.proofs.session_laws.elements_are_those_of_the_session.Goals as goal

pub returns-clause-lines : goal.returns-clause-lines
returns-clause-lines c = each_line

pub returns-clause-rows : goal.returns-clause-rows
returns-clause-rows c = each_row

pub returns-clause-picture : goal.returns-clause-picture
returns-clause-picture c = whole_picture

pub returns-clause-text : goal.returns-clause-text
returns-clause-text c = whole_text
