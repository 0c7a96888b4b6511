use Rattle.page_draw_svg.proofs.Elements.{each_rung, each_arrow}
use Rattle.page_draw_svg.proofs.laws.elements_are_those_of_the_run.Goals as goal

pub returns-clause-rungs : goal.returns-clause-rungs
returns-clause-rungs c = each_rung

pub returns-clause-arrows : goal.returns-clause-arrows
returns-clause-arrows c = each_arrow
